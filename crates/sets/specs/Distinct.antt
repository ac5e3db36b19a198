-- Lists without duplicates, in order of first appearance, and the plain matching of words by them.
use Rattle.std.specs.Prelude.{Bool, cond, List, [], ◌∷◌, ◌++◌}
use Rattle.traces.specs.Words.{Word, never}
use Rattle.traces.specs.Expressions.{Exp}
use Rattle.traces.specs.Normal.{equal}
use Rattle.traces.specs.Derivatives.{next}
use Rattle.std.specs.List.{list_any}

abbrev pub is_member : Exp → List Exp → Bool
is_member E Es = list_any (equal E) Es

-- E put behind the others, unless it is among them
abbrev pub append : Exp → List Exp → List Exp
append E Es = cond (is_member E Es) Es (Es ++ E ∷ [])

-- each of the first list put behind the second in turn
abbrev pub append_each : List Exp → List Exp → List Exp
append_each [] Es = Es
append_each (F ∷ Fs) Es = append_each Fs (append F Es)

-- the set after a word where no events are independent, each time without duplicates
abbrev pub reached : List Exp → Word → List Exp
reached Es [] = Es
reached Es (a ∷ w) = reached (append_each (next never a Es) []) w
