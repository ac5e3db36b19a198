-- All pairs of independent events.
use Rattle.std.specs.Prelude.{◌≡◌, ℕ, zero, suc, ◌+◌, ◌<◌, Bool, true, ◌↔◌, List, [], ◌∷◌, ◌++◌, filter}
use Rattle.std.specs.List.{Contains}

-- events are numbers below this one; shut, so that no proof writes all pairs out
unfoldable pub event_limit : ℕ
event_limit = 64

-- the pairs of a with the n numbers from b on
abbrev pub pairs_of : ℕ → ℕ → ℕ → List (ℕ × ℕ)
pairs_of a b zero = []
pairs_of a b (suc n) = (a, b) ∷ pairs_of a (b + 1) n

-- the pairs among the n numbers from a on, the lower number first, by the first and then the second number
abbrev pub pairs_from : ℕ → ℕ → List (ℕ × ℕ)
pairs_from a zero = []
pairs_from a (suc n) = pairs_of a (a + 1) n ++ pairs_from (a + 1) n

abbrev pub related : (ℕ → ℕ → Bool) → List (ℕ × ℕ) → List (ℕ × ℕ)
related relation pairs = filter (λ p. relation p.0 p.1) pairs

-- of all pairs of events those that are related
abbrev pub independent_pairs : (ℕ → ℕ → Bool) → List (ℕ × ℕ)
independent_pairs relation = related relation (pairs_from 0 event_limit)

-- a pair is one of these exactly if its lower number stands first and the two are related
abbrev pub Exactly : (ℕ → ℕ → Bool) → List (ℕ × ℕ) → Type 0
Exactly relation pairs = (a b : ℕ) → Contains pairs (a, b) ↔ ((a < b) × (relation a b ≡ true))
