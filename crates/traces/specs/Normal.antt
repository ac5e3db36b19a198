-- The normalising constructors, which leave out Zero and One where they can, and what is built by them.
use Rattle.std.specs.Prelude.{◌≡◌, ℕ, Bool, true, false, cond, ◌&&◌, ◌||◌, nat_eq}
use Rattle.traces.specs.Expressions.{Exp, event, one, zero, sum, cat, star}

abbrev pub is_zero : Exp → Bool
is_zero (event b) = false
is_zero one = false
is_zero zero = true
is_zero (sum E F) = false
is_zero (cat E F) = false
is_zero (star E) = false

abbrev pub is_one : Exp → Bool
is_one (event b) = false
is_one one = true
is_one zero = false
is_one (sum E F) = false
is_one (cat E F) = false
is_one (star E) = false

-- the two expressions are the same
abbrev pub equal : Exp → Exp → Bool
equal (event b) F = elim F [ event c ↦ nat_eq b c | one ↦ false | zero ↦ false | sum C D ↦ false | cat C D ↦ false | star C ↦ false ]
equal one F = is_one F
equal zero F = is_zero F
equal (sum A B) F = elim F [ event c ↦ false | one ↦ false | zero ↦ false | sum C D ↦ equal A C && equal B D | cat C D ↦ false | star C ↦ false ]
equal (cat A B) F = elim F [ event c ↦ false | one ↦ false | zero ↦ false | sum C D ↦ false | cat C D ↦ equal A C && equal B D | star C ↦ false ]
equal (star A) F = elim F [ event c ↦ false | one ↦ false | zero ↦ false | sum C D ↦ false | cat C D ↦ false | star C ↦ equal A C ]

-- E is among the summands of F: those of Sum of A and B are A itself and those of B, and any other expression is its own
abbrev pub is_summand : Exp → Exp → Bool
is_summand E (event b) = equal E (event b)
is_summand E one = equal E one
is_summand E zero = equal E zero
is_summand E (sum A B) = equal E A || is_summand E B
is_summand E (cat A B) = equal E (cat A B)
is_summand E (star A) = equal E (star A)

-- Zero if F is Zero, E if F is One, else the given Cat of both
abbrev pub joined : Exp → Exp → Exp → Exp
joined E F both = cond (is_zero F) zero (cond (is_one F) E both)

-- Cat of E and F
abbrev pub cat_of : Exp → Exp → Exp
cat_of (event b) F = joined (event b) F (cat (event b) F)
cat_of one F = F
cat_of zero F = zero
cat_of (sum A B) F = joined (sum A B) F (cat (sum A B) F)
cat_of (cat A B) F = joined (cat A B) F (cat_of A (cat_of B F))
cat_of (star A) F = joined (star A) F (cat (star A) F)

-- E if F is Zero, F if E is among its summands, else the plain Sum
abbrev pub added : Exp → Exp → Exp
added E F = cond (is_zero F) E (cond (is_summand E F) F (sum E F))

-- Sum of E and F
abbrev pub sum_of : Exp → Exp → Exp
sum_of (event b) F = added (event b) F
sum_of one F = added one F
sum_of zero F = F
sum_of (sum A B) F = cond (is_zero F) (sum A B) (sum_of A (sum_of B F))
sum_of (cat A B) F = added (cat A B) F
sum_of (star A) F = added (star A) F

-- Star of E
abbrev pub star_of : Exp → Exp
star_of (event b) = star (event b)
star_of one = one
star_of zero = one
star_of (sum A B) = star (sum A B)
star_of (cat A B) = star (cat A B)
star_of (star A) = star A

-- the expression rebuilt by these constructors, with Zero for every event that fails the test
abbrev pub restrict : (ℕ → Bool) → Exp → Exp
restrict p (event b) = cond (p b) (event b) zero
restrict p one = one
restrict p zero = zero
restrict p (sum E F) = sum_of (restrict p E) (restrict p F)
restrict p (cat E F) = cat_of (restrict p E) (restrict p F)
restrict p (star E) = star_of (restrict p E)

-- the expression rebuilt by these constructors
abbrev pub normal : Exp → Exp
normal E = restrict (λ _. true) E

-- the expression is normalised: these constructors build it again as it is
abbrev pub Normal : Exp → Type 0
Normal E = normal E ≡ E
