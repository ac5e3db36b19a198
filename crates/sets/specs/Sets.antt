-- Sets of expressions, kept as lists in the order of the prefix forms.
use Rattle.std.specs.Prelude.{Bool, ◌||◌, List, [], length, nat_lt}
use Rattle.std.specs.List.{list_any}
use Rattle.std.specs.BTreeSet.{insert_key}
use Rattle.ordered.specs.Insertion.{insert_all}
use Rattle.traces.specs.Members.{Subset}
use Rattle.traces.specs.Expressions.{Exp}
use Rattle.traces.specs.Order.{size, order}

-- E put in at its place, unless it is there
abbrev pub insert : Exp → List Exp → List Exp
insert E Es = insert_key order Es E

-- each of the first list put into the second in turn
abbrev pub insert_each : List Exp → List Exp → List Exp
insert_each Es Fs = insert_all order Es Fs

-- the members of the list in order, each once
abbrev pub sorted : List Exp → List Exp
sorted Es = insert_each Es []

-- one of them has more than 120 symbols
abbrev pub any_large : List Exp → Bool
any_large Es = list_any (λ E. nat_lt 120 (size E)) Es

-- more than 32 members, or one of more than 120 symbols
abbrev pub wide : List Exp → Bool
wide Es = nat_lt 32 (length Es) || any_large Es

-- the two lists have the same members
abbrev pub SameMembers : List Exp → List Exp → Type 0
SameMembers Es Fs = Subset Es Fs × Subset Fs Es
