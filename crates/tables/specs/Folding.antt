-- Records one after another, each added to what those before it made.
use Rattle.std.specs.Prelude.{ℕ, zero, suc, ◌-◌, List, length, Some, None, Ok, Err, Option, Result}
use Rattle.lines.specs.declared.fault.LinesFault.{LinesFault}
use Rattle.lines.specs.declared.field.Field.{Field}
use Rattle.lines.specs.Reading.{next_record}
use Rattle.tables.specs.declared.fault.NamesFault.{NamesFault}
use Rattle.tables.specs.declared.fault.NamesFault.TheVariants.{Lines}
use Rattle.tables.specs.Telling.{and_then}

module _ {S : Type 0} (width : ℕ) (add : List Field → S → Result S NamesFault) (text : List ℕ) where
  -- a reading adds its record, and then come the records behind it
  abbrev pub added_by : S → (ℕ → S → Result S NamesFault) → Result (Option (List Field × ℕ)) LinesFault → Result S NamesFault
  added_by s next (Ok None) = Ok s
  added_by s next (Ok (Some read)) = and_then (add read.0 s) (next read.1)
  added_by s next (Err f) = Err (Lines f)

  -- what at most so many records from a place on add
  abbrev pub some_records : ℕ → ℕ → S → Result S NamesFault
  some_records zero place s = Ok s
  some_records (suc n) place s = added_by s (some_records n) (next_record width text place)

  -- what all records from a place on add: there are no more of them than bytes
  abbrev pub records_from : ℕ → S → Result S NamesFault
  records_from place s = some_records (length text - place) place s
