-- Where the fields of a record stand, and what they hold.
use Rattle.std.specs.Prelude.{ℕ, ◌+◌, ◌-◌, cond, List, [], ◌∷◌, length, take, drop, Some, None, Option, ◌==◌}
use Rattle.lines.specs.declared.field.Field.{Field}

-- the bytes of a field in its text
abbrev pub bytes_of : List ℕ → Field → List ℕ
bytes_of text f = take f.len (drop f.start text)

-- the field from one place up to another
abbrev pub between : ℕ → ℕ → Field
between start end = record { start = start; len = end - start }

-- the fields into which a separator parts the bytes that stand from place at on, the first of them begun at start
abbrev pub parted : ℕ → ℕ → ℕ → List ℕ → List Field
parted separator start at [] = between start at ∷ []
parted separator start at (b ∷ bs) =
    cond (b == separator) (between start at ∷ parted separator (at + 1) (at + 1) bs) (parted separator start (at + 1) bs)

-- the fields of a record whose bytes stand from a place on: commas part them
abbrev pub fields_at : ℕ → List ℕ → List Field
fields_at place bytes = parted 44 place place bytes

-- the fields, if there are just so many
abbrev pub exactly : ℕ → List Field → Option (List Field)
exactly width fs = cond (length fs == width) (Some fs) None
