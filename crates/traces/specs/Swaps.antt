-- A row of distinct places, each with its event, and swaps of neighbours that bring it into another order.
use Rattle.std.specs.Prelude.{◌≡◌, ℕ, suc, true, cond, ◌⊎◌, ◌↔◌, List, [], ◌∷◌, ◌++◌, map, length, ◌==◌}
use Rattle.traces.specs.Members.{Member}
use Rattle.traces.specs.Words.{Rel}
use Rattle.traces.specs.Expressions.{Exp, Matches}
use Rattle.traces.specs.Exchanges.{Exchanges}
use Rattle.traces.specs.Closure.{Closure}

abbrev pub Row : Type 0
Row = List ℕ

-- x stands before y in the row
abbrev pub Before : ℕ → ℕ → Row → Type 0
Before x y [] = ⊥
Before x y (z ∷ row) = ((x ≡ z) × Member y row) ⊎ Before x y row

-- no place stands twice in the row
abbrev pub Distinct : Row → Type 0
Distinct [] = Unit {0}
Distinct (z ∷ row) = (Member z row → ⊥) × Distinct row

-- the order has the places of the row, each once
abbrev pub Reorders : Row → Row → Type 0
Reorders row order = Distinct row × Distinct order × ((x : ℕ) → Member x row ↔ Member x order)

-- two places whose order differs have independent events; label gives the event of a place
abbrev pub TurnedIndependent : Rel → (ℕ → ℕ) → Row → Row → Type 0
TurnedIndependent rel label row order = (x y : ℕ) → Before x y row → Before y x order → rel (label x) (label y) ≡ true

-- the row without the first x
abbrev pub remove : ℕ → Row → Row
remove x [] = []
remove x (z ∷ row) = cond (x == z) row (z ∷ remove x row)

-- the swaps that bring x to the front, each by the number of places before the two neighbours
abbrev pub to_front : ℕ → Row → List ℕ
to_front x [] = []
to_front x (z ∷ row) = cond (x == z) [] (map (λ i. suc i) (to_front x row) ++ (0 ∷ []))

-- the place that is due first is brought to the front, then of the rest the one that is due second, and so on
abbrev pub swaps : Row → Row → List ℕ
swaps row [] = []
swaps row (x ∷ order) = to_front x row ++ map (λ i. suc i) (swaps (remove x row) order)

-- the swaps, one after another, lead from the row to the end, and each is of neighbours with independent events
abbrev pub SwapsTo : Rel → (ℕ → ℕ) → Row → List ℕ → Row → Type 0
SwapsTo rel label row [] end = row ≡ end
SwapsTo rel label row (i ∷ is) end =
    (p : Row) × (x : ℕ) × (y : ℕ) × (q : Row) × (length p ≡ i) × (row ≡ p ++ (x ∷ y ∷ q)) × (rel (label x) (label y) ≡ true)
    × SwapsTo rel label (p ++ (y ∷ x ∷ q)) is end

-- ── theorems ──

-- if every two places whose order differs are independent, the swaps are all of independent neighbours and end in the order
abbrev pub SwapsReachOrder : Type 0
SwapsReachOrder =
    (rel : Rel) (label : ℕ → ℕ) (row order : Row) → Reorders row order → TurnedIndependent rel label row order
    → SwapsTo rel label row (swaps row order) order

-- swaps of places are exchanges of their events
abbrev pub SwapsAreExchanges : Type 0
SwapsAreExchanges =
    (rel : Rel) (label : ℕ → ℕ) (row end : Row) (is : List ℕ) → SwapsTo rel label row is end
    → Exchanges rel (map label row) (map label end)

-- the events of a row are in the closure of E exactly if the events of such an order are a word of E
abbrev pub ClosureByOrders : Type 0
ClosureByOrders =
    (rel : Rel) (label : ℕ → ℕ) (E : Exp) (row : Row) → Distinct row
    → Closure rel E (map label row)
    ↔ ((order : Row) × Reorders row order × TurnedIndependent rel label row order × Matches E (map label order))
