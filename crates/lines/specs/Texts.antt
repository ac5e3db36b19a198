-- A text and its records: what reading a whole text gives, and the two laws that tie it to writing one.
use Rattle.std.specs.Prelude.{◌≡◌, ℕ, ◌<◌, ◌≤◌, true, ◌⊎◌, List, [], ◌∷◌, ◌++◌, map, length, Some, None, Ok}
use Rattle.std.specs.List.{AllByRecursion}
use Rattle.lines.specs.declared.field.Field.{Field}
use Rattle.lines.specs.Fields.{bytes_of}
use Rattle.lines.specs.Scanning.{in_field}
use Rattle.lines.specs.Reading.{opened, next_record}

-- fields that follow another, each behind a comma
abbrev pub after_comma : List (List ℕ) → List ℕ
after_comma [] = []
after_comma (f ∷ fs) = 44 ∷ (f ++ after_comma fs)

-- the fields of a record with commas between them
abbrev pub commas : List (List ℕ) → List ℕ
commas [] = []
commas (f ∷ fs) = f ++ after_comma fs

-- the text of some records: CR LF follows each
abbrev pub written : List (List (List ℕ)) → List ℕ
written [] = []
written (r ∷ rs) = commas r ++ (13 ∷ 10 ∷ written rs)

-- only bytes of a field
abbrev pub FieldBytes : List ℕ → Type 0
FieldBytes bytes = AllByRecursion (λ b. in_field b ≡ true) bytes

-- the bytes of just so many fields
abbrev pub Row : ℕ → List (List ℕ) → Type 0
Row width fields = (length fields ≡ width) × AllByRecursion FieldBytes fields

-- reading on from a place to the end of the text gives these records
abbrev pub ReadsOn : ℕ → List ℕ → ℕ → List (List Field) → Type 0
ReadsOn width text place [] = next_record width text place ≡ Ok None
ReadsOn width text place (r ∷ rs) =
    (behind : ℕ) × (next_record width text place ≡ Ok (Some (r, behind))) × ReadsOn width text behind rs

-- the text is read to its end, and gives the header and then the other records
abbrev pub Accepted : ℕ → ℕ → List ℕ → List (List Field) → Type 0
Accepted width limit text [] = ⊥
Accepted width limit text (h ∷ rs) = (behind : ℕ) × (opened width limit text ≡ Ok (h, behind)) × ReadsOn width text behind rs

-- what the fields of the records hold
abbrev pub contents : List ℕ → List (List Field) → List (List (List ℕ))
contents text rs = map (map (bytes_of text)) rs

-- the last of these records, if there are any, is not one empty field
abbrev pub LastShows : List (List (List ℕ)) → Type 0
LastShows [] = Unit {0}
LastShows (r ∷ []) = r ≡ [] ∷ [] → ⊥
LastShows (r ∷ (s ∷ rs)) = LastShows (s ∷ rs)

-- an accepted text is the text of its records, but for a last CR LF that it may lack
unfoldable pub Rejoins : ℕ → ℕ → List ℕ → Type 0
Rejoins width limit text =
    (rs : List (List Field)) → Accepted width limit text rs
    → AllByRecursion (Row width) (contents text rs)
    × ((text ≡ written (contents text rs)) ⊎ (text ++ (13 ∷ 10 ∷ []) ≡ written (contents text rs)))

-- the text of a header and rows is accepted and gives them back, also without its last CR LF if the last row then shows: an empty line behind others does not
unfoldable pub ReadsWritten : ℕ → ℕ → List ℕ → Type 0
ReadsWritten width limit text =
    (header : List (List ℕ)) (rows : List (List (List ℕ))) → 0 < width → length text ≤ limit → AllByRecursion (Row width) (header ∷ rows)
    → (text ≡ written (header ∷ rows)) ⊎ ((text ++ (13 ∷ 10 ∷ []) ≡ written (header ∷ rows)) × LastShows rows)
    → (rs : List (List Field)) × Accepted width limit text rs × (contents text rs ≡ header ∷ rows)
