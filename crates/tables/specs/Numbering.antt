-- Names by number, in the order of their first appearance.
use Rattle.std.specs.Prelude.{ℕ, cond, List, [], ◌∷◌, ◌++◌, length, Some, None, Ok, Err, Option, Result, nat_le, position}
use Rattle.lines.specs.declared.field.Field.{Field}
use Rattle.lines.specs.Fields.{bytes_of}
use Rattle.std.specs.List.{slice_get}
use Rattle.std.specs.Option.{option_map}
use Rattle.std.specs.Str.{bytes_eq}
use Rattle.tables.specs.declared.fault.NamesFault.{NamesFault}
use Rattle.tables.specs.declared.fault.NamesFault.TheVariants.{TooMany}

-- what stands for a field past the end of a list
abbrev pub no_field : Field
no_field = record { start = 0; len = 0 }

-- the name with a number
abbrev pub name_at : List ℕ → List Field → ℕ → Option (List ℕ)
name_at text names n = option_map (bytes_of text) (slice_get names n)

-- the number of a name: where it stands first
abbrev pub number_of : List ℕ → List Field → List ℕ → Option ℕ
number_of text names name = position (λ f. bytes_eq (bytes_of text f) name) names

-- a name that is not known takes the next number, unless the limit is reached
abbrev pub enrolled : List Field → Field → ℕ → ℕ → Option ℕ → Result (ℕ × List Field) NamesFault
enrolled names f limit place (Some n) = Ok (n, names)
enrolled names f limit place None = cond (nat_le limit (length names)) (Err (TooMany place)) (Ok (length names, names ++ f ∷ []))

-- the number of the name in a field, and the names then
abbrev pub numbered : List ℕ → List Field → Field → ℕ → ℕ → Result (ℕ × List Field) NamesFault
numbered text names f limit place = enrolled names f limit place (number_of text names (bytes_of text f))
