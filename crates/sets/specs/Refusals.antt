-- What the building of a set answers.
use Rattle.std.specs.Prelude.{◌≡◌, true, false, List, Ok, Err, vec_items, codes, ℕ, Result}
use Rattle.traces.specs.Expressions.{Exp}
use Rattle.expressions.specs.Model.{models}
use Rattle.sets.specs.Sets.{wide}
use Rattle.sets.specs.declared.set.ExprSet.{ExprSet}
use Rattle.sets.specs.declared.refusal.SetRefusal.{SetRefusal}
use Rattle.sets.specs.declared.refusal.SetRefusal.TheVariants.{TooWide, Memory}

-- what a refusal prints
abbrev pub refusal_message : SetRefusal → List ℕ
refusal_message TooWide = codes "the set is too wide"
refusal_message Memory = codes "out of memory"

-- why the set of these expressions is refused; want of memory can befall any
abbrev pub Refused : SetRefusal → List Exp → Type 0
Refused TooWide Es = wide Es ≡ true
Refused Memory Es = Unit {0}

-- the expressions at hand are then Es, which are few and small enough, or Es are refused
abbrev pub Becomes : {A : Type 0} → Result A SetRefusal → (A → List Exp) → List Exp → Type 0
Becomes (Ok x) found Es = (found x ≡ Es) × (wide Es ≡ false)
Becomes (Err f) found Es = Refused f Es

-- the expressions of a set
abbrev pub members_of : ExprSet → List Exp
members_of s = models (vec_items s.members)
