-- The header of a table.
use Rattle.std.specs.Prelude.{ℕ, cond, List, [], ◌∷◌, length, Ok, Err, Result}
use Rattle.lines.specs.declared.field.Field.{Field}
use Rattle.lines.specs.Fields.{bytes_of}
use Rattle.lines.specs.Reading.{opened}
use Rattle.std.specs.Str.{bytes_eq}
use Rattle.tables.specs.declared.fault.NamesFault.{NamesFault}
use Rattle.tables.specs.declared.fault.NamesFault.TheVariants.{Header}
use Rattle.tables.specs.Numbering.{no_field}
use Rattle.tables.specs.Telling.{and_then, lifted}

-- a header field has to be the given name
abbrev pub headed : List ℕ → Field → List ℕ → Result (Unit {0}) NamesFault
headed text f name = cond (bytes_eq (bytes_of text f) name) (Ok tt) (Err (Header f.start))

-- the fields of a header have to be the names, one by one; the first that differs is refused
abbrev pub headed_by : List ℕ → List (List ℕ) → List Field → Result (Unit {0}) NamesFault
headed_by text [] fs = Ok tt
headed_by text (name ∷ names) [] = and_then (headed text no_field name) (λ _. headed_by text names [])
headed_by text (name ∷ names) (f ∷ fs) = and_then (headed text f name) (λ _. headed_by text names fs)

-- the place behind the header of a text of limited length, which has to be the names
abbrev pub opened_by : ℕ → List (List ℕ) → List ℕ → Result ℕ NamesFault
opened_by limit names text =
    and_then (lifted (opened (length names) limit text)) (λ h.
    and_then (headed_by text names h.0) (λ _. Ok h.1))
