-- What each fault of the names layer and above prints.
use Rattle.std.specs.Prelude.{ℕ, List, codes}
use Rattle.lines.specs.Messages.{at_byte, lines_message}
use Rattle.tables.specs.declared.fault.NamesFault.{NamesFault}
use Rattle.tables.specs.declared.fault.NamesFault.TheVariants.{Lines, Header, NoName, TooMany, Unknown, OtherProcess, WithItself, Again, Memory}
use Rattle.tables.specs.declared.fault.ApartFault.{ApartFault}
use Rattle.tables.specs.declared.fault.ApartFault.TheVariants.{Names, ShortStore}

abbrev pub names_message : NamesFault → List ℕ
names_message (Lines f) = lines_message f
names_message (Header at) = at_byte at (codes ": the header has another name here")
names_message (NoName at) = at_byte at (codes ": no name")
names_message (TooMany at) = at_byte at (codes ": one name too many")
names_message (Unknown at) = at_byte at (codes ": an unknown name")
names_message (OtherProcess at) = at_byte at (codes ": another process than the event had before")
names_message (WithItself at) = at_byte at (codes ": a process with itself")
names_message (Again at) = at_byte at (codes ": a pair that was listed before")
names_message Memory = codes "out of memory"

abbrev pub apart_message : ApartFault → List ℕ
apart_message (Names f) = names_message f
apart_message ShortStore = codes "the store is too short"
