-- The members of a list. A list often stands for the set of its members.
use Rattle.std.specs.Prelude.{◌≡◌, ◌⊎◌, List, [], ◌∷◌}

abbrev pub Member : {A : Type 0} → A → List A → Type 0
Member x [] = ⊥
Member x (y ∷ ys) = (x ≡ y) ⊎ Member x ys

-- some member of the list has P
abbrev pub Any : {A : Type 0} → (A → Type 0) → List A → Type 0
Any {A} P xs = (x : A) × Member x xs × P x

abbrev pub Subset : {A : Type 0} → List A → List A → Type 0
Subset {A} xs ys = (x : A) → Member x xs → Member x ys
