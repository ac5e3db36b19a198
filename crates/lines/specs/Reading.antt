-- What reading a record gives, over the bytes of the text.
use Rattle.std.specs.Prelude.{ℕ, ◌+◌, cond, List, length, drop, Some, None, Ok, Err, Option, Result, ◌==◌, nat_le, nat_lt}
use Rattle.lines.specs.declared.fault.LinesFault.{LinesFault}
use Rattle.lines.specs.declared.fault.LinesFault.TheVariants.{TooLong, FieldCount}
use Rattle.lines.specs.declared.field.Field.{Field}
use Rattle.lines.specs.Fields.{fields_at}
use Rattle.lines.specs.Scanning.{body, next_line}

-- the record of these bytes at a place, if it has the width; behind it the reader goes on
abbrev pub counted_as : ℕ → ℕ → List ℕ → ℕ → Result (List Field × ℕ) LinesFault
counted_as width place bytes next =
    cond (length (fields_at place bytes) == width) (Ok (fields_at place bytes, next)) (Err (FieldCount place))

-- a wrong byte behind the record's own is refused before their number of fields
abbrev pub ended : ℕ → ℕ → List ℕ → Result ℕ LinesFault → Result (List Field × ℕ) LinesFault
ended width place bytes (Ok next) = counted_as width place bytes next
ended width place bytes (Err f) = Err f

-- the record at the front of the bytes that stand from a place on
abbrev pub record_in : ℕ → ℕ → List ℕ → Result (List Field × ℕ) LinesFault
record_in width place rest =
    ended width place (body rest) (next_line (place + length (body rest)) (drop (length (body rest)) rest))

-- the record at a place of a text, and the place behind it
abbrev pub record_at : ℕ → List ℕ → ℕ → Result (List Field × ℕ) LinesFault
record_at width text place = record_in width place (drop place text)

-- the header of a text of limited length, and the place behind it
abbrev pub opened : ℕ → ℕ → List ℕ → Result (List Field × ℕ) LinesFault
opened width limit text = cond (nat_lt limit (length text)) (Err TooLong) (record_at width text 0)

abbrev pub some : Result (List Field × ℕ) LinesFault → Result (Option (List Field × ℕ)) LinesFault
some (Ok read) = Ok (Some read)
some (Err f) = Err f

-- what is read at a place behind the header: nothing at the end of the text
abbrev pub next_record : ℕ → List ℕ → ℕ → Result (Option (List Field × ℕ)) LinesFault
next_record width text place = cond (nat_le (length text) place) (Ok None) (some (record_at width text place))

-- the fields of what was read
abbrev pub fields_in : Result (Option (List Field × ℕ)) LinesFault → Result (Option (List Field)) LinesFault
fields_in (Ok None) = Ok None
fields_in (Ok (Some read)) = Ok (Some read.0)
fields_in (Err f) = Err f

-- the place after a reading at a place: a refusal and the end of the text leave it
abbrev pub place_after : ℕ → Result (Option (List Field × ℕ)) LinesFault → ℕ
place_after place (Ok None) = place
place_after place (Ok (Some read)) = read.1
place_after place (Err f) = place

-- what holds if a record came
abbrev pub WithRecord : Result (Option (List Field)) LinesFault → Type 0 → Type 0
WithRecord (Ok None) P = Unit {0}
WithRecord (Ok (Some r)) P = P
WithRecord (Err f) P = Unit {0}
