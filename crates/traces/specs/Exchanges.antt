-- Exchanges of neighbouring independent events in a word.
use Rattle.std.specs.Prelude.{◌≡◌, ℕ, true, ◌∷◌, ◌++◌}
use Rattle.traces.specs.Words.{Word, Rel}

-- one exchange: v is u with two neighbouring independent events a b as b a
abbrev pub Exchange : Rel → Word → Word → Type 0
Exchange rel u v =
    (p : Word) × (a : ℕ) × (b : ℕ) × (q : Word) × (u ≡ p ++ (a ∷ b ∷ q)) × (v ≡ p ++ (b ∷ a ∷ q)) × (rel a b ≡ true)

-- any number of exchanges, none too
pub data Exchanges (rel : Rel) : Word → Word → Type 0 where
  unchanged : {u v : Word} → u ≡ v → Exchanges rel u v
  exchanged : {u v w : Word} → Exchange rel u v → Exchanges rel v w → Exchanges rel u w
