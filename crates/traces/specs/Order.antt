-- The size of an expression, and the order of expressions by the symbols of their prefix forms.
use Rattle.std.specs.Prelude.{ℕ, ◌+◌, List, [], ◌∷◌, ◌++◌}
use Rattle.std.specs.declared.cmp.Ordering.TheVariants.{Less, Greater}
use Rattle.std.specs.declared.cmp.Ordering.{Ordering}
use Rattle.std.specs.Ordering.{ordering_then, nat_cmp}
use Rattle.std.specs.Cmp.Lexicographic.{slice_cmp}
use Rattle.traces.specs.Expressions.{Exp, event, one, zero, sum, cat, star}

-- the prefix form
abbrev pub symbols : Exp → List ℕ
symbols (event b) = b ∷ []
symbols one = 64 ∷ []
symbols zero = 68 ∷ []
symbols (sum E F) = 65 ∷ (symbols E ++ symbols F)
symbols (cat E F) = 66 ∷ (symbols E ++ symbols F)
symbols (star E) = 67 ∷ symbols E

-- the number of symbols
abbrev pub size : Exp → ℕ
size (event b) = 1
size one = 1
size zero = 1
size (sum E F) = 1 + size E + size F
size (cat E F) = 1 + size E + size F
size (star E) = 1 + size E

-- the lexicographic order of the symbols, a beginning before what it begins
abbrev pub order : Exp → Exp → Ordering
order E F = slice_cmp nat_cmp (symbols E) (symbols F)

-- the first symbol
abbrev pub first_symbol : Exp → ℕ
first_symbol (event b) = b
first_symbol one = 64
first_symbol zero = 68
first_symbol (sum E F) = 65
first_symbol (cat E F) = 66
first_symbol (star E) = 67

-- the order as a program finds it, part by part and without the prefix forms; it is the same for events below 64
abbrev pub tree_order : Exp → Exp → Ordering
tree_order (event b) F = nat_cmp b (first_symbol F)
tree_order one F = nat_cmp 64 (first_symbol F)
tree_order zero F = nat_cmp 68 (first_symbol F)
tree_order (sum A B) F = elim F [ event c ↦ nat_cmp 65 c | one ↦ Greater | zero ↦ Less | sum C D ↦ ordering_then (tree_order A C) (tree_order B D) | cat C D ↦ Less | star C ↦ Less ]
tree_order (cat A B) F = elim F [ event c ↦ nat_cmp 66 c | one ↦ Greater | zero ↦ Less | sum C D ↦ Greater | cat C D ↦ ordering_then (tree_order A C) (tree_order B D) | star C ↦ Less ]
tree_order (star A) F = elim F [ event c ↦ nat_cmp 67 c | one ↦ Greater | zero ↦ Less | sum C D ↦ Greater | cat C D ↦ Greater | star C ↦ tree_order A C ]
