-- The text of any rows is accepted, and gives the rows back.
use Rattle.std.proofs.Common.{◌≡◌, ℕ, ◌+◌, ◌<◌, ◌≤◌, List, [], ◌∷◌, ◌++◌, map, length, drop, None, Ok, sym, refl, ap, ◌∙◌, inl, inr, add_assoc, arith, length-append, length-drop}
use lib.ListN.{length-map}
use lib.Seq.{drop-append_seam}
use Rattle.std.proofs.lemmas.List.{append_assoc, append_cancel_right, append-nil}
use Rattle.std.proofs.lemmas.Bool.{cond-true, cond-false, eq-eqb, le-leb, lt-leb, le-ltb}
use Rattle.std.specs.List.{AllByRecursion}
use Rattle.lines.specs.declared.field.Field.{Field}
use Rattle.lines.specs.Fields.{bytes_of, fields_at}
use Rattle.lines.specs.Scanning.{body, next_line}
use Rattle.lines.specs.Reading.{ended, record_at, record_in, some, next_record}
use Rattle.lines.specs.Texts.{Row, commas, written, ReadsOn, Accepted, contents, LastShows, ReadsWritten}
use Rattle.lines.proofs.Bodies.{body-append}
use Rattle.lines.proofs.Pieces.{bytes_parted, commas_record, drop_behind, pieces_row}

-- a row that stands at a place of the text, with the bytes behind it
module _ (width : ℕ) (text : List ℕ) (some-width : 0 < width) (place : ℕ) (row : List (List ℕ)) (of_row : Row width row) (tail : List ℕ) (stands : drop place text ≡ commas row ++ tail) where
  row_held : map (bytes_of text) (fields_at place (commas row)) ≡ row
  row_held = bytes_parted text [] (commas row) tail place place stands (omega arith) ∙ pieces_row width row some-width of_row

  row_count : length (fields_at place (commas row)) ≡ width
  row_count = sym (length-map (fields_at place (commas row)) (bytes_of text)) ∙ ap length row_held ∙ of_row.0

  row_read : body tail ≡ [] → record_at width text place ≡ ended width place (commas row) (next_line (place + length (commas row)) tail)
  row_read e =
      let own : body (commas row ++ tail) ≡ commas row = body-append (commas row) tail (commas_record row of_row.1) e in
      ap (record_in width place) stands
      ∙ ap (λ bs. ended width place bs (next_line (place + length bs) (drop (length bs) (commas row ++ tail)))) own
      ∙ ap (λ bs. ended width place (commas row) (next_line (place + length (commas row)) bs)) (drop-append_seam (commas row) tail)

next_end : (width : ℕ) (text : List ℕ) (place : ℕ) → length text ≤ place → next_record width text place ≡ Ok None
next_end width text place h = cond-true _ _ _ (le-leb (length text) place h)

-- from a place a record and then others are read, to the end of the text, and these rows are what they hold
abbrev Reads : ℕ → List ℕ → ℕ → List (List (List ℕ)) → Type 0
Reads width text place rows =
    (r : List Field) × (behind : ℕ) × (rs : List (List Field)) × (record_at width text place ≡ Ok (r, behind))
    × ReadsOn width text behind rs × (contents text (r ∷ rs) ≡ rows)

reads_on : (width : ℕ) (text : List ℕ) (place : ℕ) (rows : List (List (List ℕ))) → place < length text → Reads width text place rows
    → (rs : List (List Field)) × ReadsOn width text place rs × (contents text rs ≡ rows)
reads_on width text place rows h r =
    (r.0 ∷ r.2, (r.1, cond-false _ _ _ (lt-leb (length text) place h) ∙ ap some r.3, r.4), r.5)

reads_accepted : (width limit : ℕ) (text : List ℕ) (rows : List (List (List ℕ))) → length text ≤ limit → Reads width text 0 rows
    → (rs : List (List Field)) × Accepted width limit text rs × (contents text rs ≡ rows)
reads_accepted width limit text rows h r =
    (r.0 ∷ r.2, (r.1, cond-false _ _ _ (le-ltb limit (length text) h) ∙ r.3, r.4), r.5)

line_behind : (text : List ℕ) (place : ℕ) (bytes tail : List ℕ) → drop place text ≡ bytes ++ (13 ∷ 10 ∷ tail)
    → drop (place + length bytes + 2) text ≡ tail
line_behind text place bytes tail e =
    ap (λ k. drop k text) (add_assoc place (length bytes) 2) ∙ drop_behind text bytes (13 ∷ 10 ∷ tail) place 2 e

-- a row at the end of the text, and one with CR LF behind it
module _ (width : ℕ) (text : List ℕ) (some-width : 0 < width) (place : ℕ) (row : List (List ℕ)) (of_row : Row width row) where
  reads_bare : drop place text ≡ commas row → Reads width text place (row ∷ [])
  reads_bare e =
      let stands : drop place text ≡ commas row ++ [] = e ∙ sym (append-nil (commas row)) in
      let end : length text ≤ place + length (commas row) = omega (arith, ap length e, length-drop place text) in (
        fields_at place (commas row),
        place + length (commas row),
        [],
        row_read width text some-width place row of_row [] stands refl ∙ cond-true _ _ _ (eq-eqb _ _ (row_count width text some-width place row of_row [] stands)),
        next_end width text (place + length (commas row)) end,
        ap (λ f. f ∷ []) (row_held width text some-width place row of_row [] stands),
      )

  reads_line : (tail : List ℕ) (rows : List (List (List ℕ))) → drop place text ≡ commas row ++ (13 ∷ 10 ∷ tail)
      → (rs : List (List Field)) × ReadsOn width text (place + length (commas row) + 2) rs × (contents text rs ≡ rows)
      → Reads width text place (row ∷ rows)
  reads_line tail rows stands next = (
    fields_at place (commas row),
    place + length (commas row) + 2,
    next.0,
    row_read width text some-width place row of_row (13 ∷ 10 ∷ tail) stands refl ∙ cond-true _ _ _ (eq-eqb _ _ (row_count width text some-width place row of_row (13 ∷ 10 ∷ tail) stands)),
    next.1,
    ap (λ f. f ∷ contents text next.0) (row_held width text some-width place row of_row (13 ∷ 10 ∷ tail) stands) ∙ ap (λ rs. row ∷ rs) next.2,
  )

  reads_last : drop place text ≡ commas row ++ (13 ∷ 10 ∷ []) → Reads width text place (row ∷ [])
  reads_last stands =
      let behind = line_behind text place (commas row) [] stands in
      let end : length text ≤ place + length (commas row) + 2 = omega (arith, ap length behind, length-drop (place + length (commas row) + 2) text) in
      reads_line [] [] stands ([], next_end width text (place + length (commas row) + 2) end, refl)

  reads_more : (tail : List ℕ) (rows : List (List (List ℕ))) → drop place text ≡ commas row ++ (13 ∷ 10 ∷ tail) → 0 < length tail
      → Reads width text (place + length (commas row) + 2) rows → Reads width text place (row ∷ rows)
  reads_more tail rows stands h next =
      let behind = line_behind text place (commas row) tail stands in
      let on : place + length (commas row) + 2 < length text = omega (arith, ap length behind, length-drop (place + length (commas row) + 2) text) in
      reads_line tail rows stands (reads_on width text (place + length (commas row) + 2) rows on next)

written_ends : (row : List (List ℕ)) (rows : List (List (List ℕ))) → (front : List ℕ) × (written (row ∷ rows) ≡ front ++ (13 ∷ 10 ∷ []))
written_ends row [] = (commas row, refl)
written_ends row (s ∷ rows) =
    let more = written_ends s rows in (
      commas row ++ (13 ∷ 10 ∷ more.0),
      ap (λ bs. commas row ++ (13 ∷ 10 ∷ bs)) more.1 ∙ sym (append_assoc (commas row) (13 ∷ 10 ∷ more.0) (13 ∷ 10 ∷ [])),
    )

written_long : (row : List (List ℕ)) (rows : List (List (List ℕ))) → length (commas row) + 2 ≤ length (written (row ∷ rows))
written_long row rows = simp length-append (omega arith)

-- a row that is not one empty field has bytes
row_shows : (width : ℕ) (row : List (List ℕ)) → 0 < width → Row width row → (row ≡ [] ∷ [] → ⊥) → 0 < length (commas row)
row_shows width [] h r n = absurd (omega (arith, r.0))
row_shows width ([] ∷ []) h r n = absurd (n refl)
row_shows width ((b ∷ bs) ∷ []) h r n = omega arith
row_shows width (f ∷ (g ∷ fs)) h r n = simp length-append (omega arith)

rows_show : (width : ℕ) (row : List (List ℕ)) (rows : List (List (List ℕ))) → 0 < width → Row width row → LastShows (row ∷ rows)
    → 2 < length (written (row ∷ rows))
rows_show width row [] h r n = omega (arith, row_shows width row h r n, written_long row [])
rows_show width row (s ∷ rows) h r n =
    omega (arith, written_long s rows, length-append (commas row) (13 ∷ 10 ∷ written (s ∷ rows)))

last_shows : (row : List (List ℕ)) (rows : List (List (List ℕ))) → LastShows (row ∷ rows) → LastShows rows
last_shows row [] l = tt
last_shows row (s ∷ rows) l = l

module _ (width : ℕ) (text : List ℕ) (some-width : 0 < width) where
  reads_whole : (row : List (List ℕ)) (rows : List (List (List ℕ))) (place : ℕ) → AllByRecursion (Row width) (row ∷ rows)
      → drop place text ≡ written (row ∷ rows) → Reads width text place (row ∷ rows)
  reads_whole row [] place h e = reads_last width text some-width place row h.0 e
  reads_whole row (s ∷ rows) place h e =
      reads_more width text some-width place row h.0 (written (s ∷ rows)) (s ∷ rows) e
      (omega (arith, written_long s rows))
      (reads_whole s rows (place + length (commas row) + 2) h.1 (line_behind text place (commas row) (written (s ∷ rows)) e))

  reads_lacking : (row : List (List ℕ)) (rows : List (List (List ℕ))) (place : ℕ) → AllByRecursion (Row width) (row ∷ rows)
      → drop place text ++ (13 ∷ 10 ∷ []) ≡ written (row ∷ rows) → LastShows rows → Reads width text place (row ∷ rows)
  reads_lacking row [] place h e l =
      reads_bare width text some-width place row h.0 (append_cancel_right (drop place text) (commas row) (13 ∷ 10 ∷ []) e)
  reads_lacking row (s ∷ rows) place h e l =
      let w = written_ends s rows in
      let stands : drop place text ≡ commas row ++ (13 ∷ 10 ∷ w.0) = append_cancel_right (drop place text) (commas row ++ (13 ∷ 10 ∷ w.0)) (13 ∷ 10 ∷ []) (e ∙ ap (λ bs. commas row ++ (13 ∷ 10 ∷ bs)) w.1 ∙ sym (append_assoc (commas row) (13 ∷ 10 ∷ w.0) (13 ∷ 10 ∷ []))) in
      let shows : 0 < length w.0 = omega (arith, rows_show width s rows some-width h.1.0 l, ap length w.1, length-append w.0 (13 ∷ 10 ∷ [])) in
      reads_more width text some-width place row h.0 w.0 (s ∷ rows) stands shows
      (reads_lacking s rows (place + length (commas row) + 2) h.1 (ap (λ bs. bs ++ (13 ∷ 10 ∷ [])) (line_behind text place (commas row) w.0 stands) ∙ sym w.1) (last_shows s rows l))

-- a text made of rows is accepted and gives the rows
pub reads_written : (width limit : ℕ) (text : List ℕ) → ReadsWritten width limit text
unfolding ReadsWritten
reads_written width limit text header rows w h all made =
    reads_accepted width limit text (header ∷ rows) h (elim made [ inl e ↦ reads_whole width text w header rows 0 all e | inr e ↦ reads_lacking width text w header rows 0 all e.0 e.1 ])
