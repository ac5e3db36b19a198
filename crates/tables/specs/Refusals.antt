-- What each fault of the names layer and above tells: its number, the place of the field that it names, and its layer.
use Rattle.std.specs.Prelude.{ℕ, Some, None, Option}
use Rattle.lines.specs.declared.fault.Layer.TheVariants.{Names as OfNames, Audit}
use Rattle.lines.specs.declared.fault.Refusal.{Refusal}
use Rattle.lines.specs.Refusals.{lines_refusal}
use Rattle.tables.specs.declared.fault.NamesFault.{NamesFault}
use Rattle.tables.specs.declared.fault.NamesFault.TheVariants.{Lines, Header, NoName, TooMany, Unknown, OtherProcess, WithItself, Again, Memory}
use Rattle.tables.specs.declared.fault.ApartFault.{ApartFault}
use Rattle.tables.specs.declared.fault.ApartFault.TheVariants.{Names, ShortStore}

abbrev pub refused : ℕ → ℕ → Option Refusal
refused number place = Some (record { number = number; place = place; layer = OfNames })

-- want of memory is no refusal of the text
abbrev pub names_refusal : NamesFault → Option Refusal
names_refusal (Lines f) = Some (lines_refusal f)
names_refusal (Header place) = refused 5 place
names_refusal (NoName place) = refused 6 place
names_refusal (TooMany place) = refused 7 place
names_refusal (Unknown place) = refused 8 place
names_refusal (OtherProcess place) = refused 9 place
names_refusal (WithItself place) = refused 10 place
names_refusal (Again place) = refused 11 place
names_refusal Memory = None

-- a store that is too short is no matter of the text
abbrev pub apart_refusal : ApartFault → Option Refusal
apart_refusal (Names f) = names_refusal f
apart_refusal ShortStore = Some (record { number = 24; place = 0; layer = Audit })
