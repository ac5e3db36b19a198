-- Results one after another, and answers that are exact unless memory was wanting.
use Rattle.std.specs.Prelude.{◌≡◌, Ok, Err, Result}
use Rattle.lines.specs.declared.fault.LinesFault.{LinesFault}
use Rattle.tables.specs.declared.fault.NamesFault.{NamesFault}
use Rattle.tables.specs.declared.fault.NamesFault.TheVariants.{Lines, Header, NoName, TooMany, Unknown, OtherProcess, WithItself, Again, Memory}

-- what comes after a result that is no fault
abbrev pub and_then : {X Y : Type 0} → Result X NamesFault → (X → Result Y NamesFault) → Result Y NamesFault
and_then (Ok x) k = k x
and_then (Err f) k = Err f

-- a fault of the lines, held whole
abbrev pub lifted : {X : Type 0} → Result X LinesFault → Result X NamesFault
lifted (Ok x) = Ok x
lifted (Err f) = Err (Lines f)

-- the answer of a call together with what it left
abbrev pub paired : {X S : Type 0} → Result X NamesFault → S → Result (X × S) NamesFault
paired (Ok x) s = Ok (x, s)
paired (Err f) s = Err f

-- what a call that answers nothing else left
abbrev pub leaving : {X S : Type 0} → Result X NamesFault → S → Result S NamesFault
leaving (Ok x) s = Ok s
leaving (Err f) s = Err f

-- the answer is the one that is due, unless memory was wanting
abbrev pub Told : {X : Type 0} → Result X NamesFault → Result X NamesFault → Type 0
Told (Ok x) due = due ≡ Ok x
Told (Err (Lines f)) due = due ≡ Err (Lines f)
Told (Err (Header p)) due = due ≡ Err (Header p)
Told (Err (NoName p)) due = due ≡ Err (NoName p)
Told (Err (TooMany p)) due = due ≡ Err (TooMany p)
Told (Err (Unknown p)) due = due ≡ Err (Unknown p)
Told (Err (OtherProcess p)) due = due ≡ Err (OtherProcess p)
Told (Err (WithItself p)) due = due ≡ Err (WithItself p)
Told (Err (Again p)) due = due ≡ Err (Again p)
Told (Err Memory) due = Unit {0}

-- the value in an answer, by what it means
abbrev pub mapped : {X Y : Type 0} → (X → Y) → Result X NamesFault → Result Y NamesFault
mapped f (Ok x) = Ok (f x)
mapped f (Err e) = Err e
