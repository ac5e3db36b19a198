-- What a name is.
use Rattle.std.specs.Prelude.{ℕ, Bool, false, cond, ◌&&◌, ◌||◌, List, [], ◌∷◌, length, Ok, Err, Result, ◌==◌, nat_le}
use Rattle.std.specs.List.{list_all}
use Rattle.lines.specs.declared.field.Field.{Field}
use Rattle.lines.specs.Fields.{bytes_of}
use Rattle.tables.specs.declared.fault.NamesFault.{NamesFault}
use Rattle.tables.specs.declared.fault.NamesFault.TheVariants.{NoName}

-- an ASCII letter or the underscore
abbrev pub is_letter : ℕ → Bool
is_letter b = (nat_le 65 b && nat_le b 90) || ((nat_le 97 b && nat_le b 122) || b == 95)

-- a letter, a digit, the underscore, the hyphen or the dot
abbrev pub is_name_byte : ℕ → Bool
is_name_byte b = is_letter b || ((nat_le 48 b && nat_le b 57) || (b == 45 || b == 46))

-- 1 to 24 name bytes, of which the first is a letter or the underscore
abbrev pub is_name : List ℕ → Bool
is_name [] = false
is_name (b ∷ bs) = is_letter b && (list_all is_name_byte (b ∷ bs) && nat_le (length (b ∷ bs)) 24)

-- the field has to be a name
abbrev pub named : List ℕ → Field → ℕ → Result (Unit {0}) NamesFault
named text f place = cond (is_name (bytes_of text f)) (Ok tt) (Err (NoName place))
