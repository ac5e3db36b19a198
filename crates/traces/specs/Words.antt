-- Words are lists of events, and events are numbers. A relation says which two events are independent of each other.
use Rattle.std.specs.Prelude.{◌≡◌, ℕ, ◌<◌, Bool, true, false, List}
use Rattle.std.specs.List.{AllByRecursion}

abbrev pub Word : Type 0
Word = List ℕ

abbrev pub Rel : Type 0
Rel = ℕ → ℕ → Bool

-- the relation in which no two events are independent
abbrev pub never : Rel
never a b = false

-- every event of the word is independent of a
abbrev pub Independent : Rel → ℕ → Word → Type 0
Independent rel a w = AllByRecursion (λ b. rel a b ≡ true) w

-- every event of the word is below n
abbrev pub Below : ℕ → Word → Type 0
Below n w = AllByRecursion (λ b. b < n) w
