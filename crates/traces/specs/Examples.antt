-- Worked examples: out, charge and store, where charge is independent of both others and out and store are not of each other.
use Rattle.std.specs.Prelude.{◌≡◌, true, false, ◌&&◌, ◌||◌, [], ◌∷◌, ◌==◌}
use Rattle.std.specs.declared.cmp.Ordering.TheVariants.{Less, Equal}
use Rattle.traces.specs.Words.{Rel}
use Rattle.traces.specs.Expressions.{Exp, event, one, zero, sum, cat, star}
use Rattle.traces.specs.Normal.{is_summand, cat_of, sum_of, normal}
use Rattle.traces.specs.Derivatives.{keep, derivatives, after, nullable}
use Rattle.traces.specs.Order.{symbols, size, order}
use Rattle.traces.specs.Swaps.{swaps}

abbrev pub out : Exp
out = event 0

abbrev pub charge : Exp
charge = event 1

abbrev pub store : Exp
store = event 2

abbrev pub rel : Rel
rel a b = (a == 0 && b == 1) || (a == 1 && b == 0) || (a == 1 && b == 2) || (a == 2 && b == 1)

-- one delivery
abbrev pub delivery : Exp
delivery = cat out (cat charge store)

-- any number of rounds, each an out or a charge with its store
abbrev pub rounds : Exp
rounds = star (sum out (cat charge store))

abbrev pub ExampleTable : Type 0
ExampleTable =
    -- (out | charge | out), folded from the left: the Sum is grouped anew from the right, where the second out stands already
    (sum_of (sum_of out charge) out ≡ sum charge out)
    -- the summands of Sum of A and B are A itself, and not those of A
    × (is_summand out (sum (sum out charge) store) ≡ false)
    -- a Cat is grouped from the right, One is left out, and Zero takes all
    × (cat_of (cat out charge) store ≡ delivery)
    × (normal (cat (star (star one)) (sum zero out)) ≡ out)
    × (normal (cat out (sum (cat charge zero) zero)) ≡ zero)
    -- a delivery may be charged before it is out, but not stored before; charged alone, it wants its out and its store
    × (after rel (delivery ∷ []) (1 ∷ 0 ∷ 2 ∷ []) ≡ one ∷ [])
    × (after rel (delivery ∷ []) (2 ∷ []) ≡ [])
    × (after rel (delivery ∷ []) (1 ∷ []) ≡ cat out store ∷ [])
    -- beside a charge no other charge is kept, so no round with one
    × (keep rel 1 rounds ≡ star out)
    × (derivatives rel 1 (star (cat out charge)) ≡ cat out (star (cat out charge)) ∷ [])
    × (after rel (star (cat out charge) ∷ []) (0 ∷ 0 ∷ 1 ∷ 1 ∷ []) ≡ star (cat out charge) ∷ [])
    -- a round of out that is due before the charge may be logged after it: the Star of what is kept stands for such rounds
    × (derivatives rel 1 rounds ≡ cat (star out) (cat store rounds) ∷ [])
    × (after rel (rounds ∷ []) (1 ∷ 0 ∷ 2 ∷ []) ≡ rounds ∷ [])
    -- without that Star the same log would be lost
    × (after rel (cat store rounds ∷ []) (0 ∷ 2 ∷ []) ≡ [])
    × (nullable rounds ≡ true)
    × (nullable (cat rounds store) ≡ false)
    -- prefix forms; an event of 64 would be read as One
    × (symbols rounds ≡ 67 ∷ 65 ∷ 0 ∷ 66 ∷ 1 ∷ 2 ∷ [])
    × (size rounds ≡ 6)
    × (order (cat out charge) (cat out store) ≡ Less)
    × (order (event 64) one ≡ Equal)
    -- the place due first comes to the front from the end, and then the other two stand right
    × (swaps (1 ∷ 2 ∷ 3 ∷ []) (3 ∷ 1 ∷ 2 ∷ []) ≡ 1 ∷ 0 ∷ [])
