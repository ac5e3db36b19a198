-- Names that have to be known already.
use Rattle.std.specs.Prelude.{ℕ, List, Some, None, Ok, Err, Option, Result}
use Rattle.lines.specs.declared.field.Field.{Field}
use Rattle.lines.specs.Fields.{bytes_of}
use Rattle.tables.specs.declared.fault.NamesFault.{NamesFault}
use Rattle.tables.specs.declared.fault.NamesFault.TheVariants.{Unknown}
use Rattle.tables.specs.Naming.{named}
use Rattle.tables.specs.Numbering.{number_of}
use Rattle.tables.specs.Telling.{and_then}

-- the number that a name must have
abbrev pub known : ℕ → Option ℕ → Result ℕ NamesFault
known place (Some n) = Ok n
known place None = Err (Unknown place)

-- the number, among the names of a table, of the name in a field of another text
abbrev pub known_in : List ℕ → List Field → List ℕ → Field → Result ℕ NamesFault
known_in table names text f =
    and_then (named text f f.start) (λ _. known f.start (number_of table names (bytes_of text f)))
