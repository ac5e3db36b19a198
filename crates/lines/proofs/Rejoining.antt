-- An accepted text is the text of its records.
use Rattle.std.proofs.Common.{◌≡◌, ℕ, ◌≤◌, ◌⊎◌, List, [], ◌∷◌, ◌++◌, map, length, drop, sym, refl, ap, ◌∙◌, inl, inr, arith, length-drop}
use lib.ListN.{length-map}
use Rattle.std.proofs.lemmas.List.{append_assoc, append-nil, drop_all}
use Rattle.std.specs.List.{AllByRecursion}
use Rattle.lines.specs.declared.field.Field.{Field}
use Rattle.lines.specs.Fields.{bytes_of}
use Rattle.lines.specs.Scanning.{body}
use Rattle.lines.specs.Texts.{Row, commas, written, ReadsOn, contents, Rejoins}
use Rattle.lines.proofs.Bodies.{body_record}
use Rattle.lines.proofs.Pieces.{pieces, bytes_parted, commas-pieces, pieces_field}
use Rattle.lines.proofs.Taken.{Taken, next_taken, next_none, opened_taken}

-- the bytes from a place on are the text of the records, but for a last CR LF
abbrev Joined : List ℕ → ℕ → List (List (List ℕ)) → Type 0
Joined text place rows = (drop place text ≡ written rows) ⊎ (drop place text ++ (13 ∷ 10 ∷ []) ≡ written rows)

-- no record is read at the end of the text
at_end : (width : ℕ) (text : List ℕ) (place : ℕ) (rs : List (List Field)) → length text ≤ place → ReadsOn width text place rs
    → rs ≡ []
at_end width text place [] h e = refl
at_end width text place (r ∷ rs) h e = absurd (omega (arith, (next_taken width text place r e.0 e.1).0))

module _ (width : ℕ) (text : List ℕ) (place : ℕ) (r : List Field) (behind : ℕ) (t : Taken width text place r behind) where
  held : (tail : List ℕ) → drop place text ≡ body (drop place text) ++ tail → map (bytes_of text) r ≡ pieces [] (body (drop place text))
  held tail e =
      ap (map (bytes_of text)) (sym t.fields)
      ∙ bytes_parted text [] (body (drop place text)) tail place place e (omega arith)

  held_here : map (bytes_of text) r ≡ pieces [] (body (drop place text))
  held_here =
      elim t.ends [
        | inl e ↦ held [] (e.0 ∙ sym (append-nil (body (drop place text))))
        | inr e ↦ held (13 ∷ 10 ∷ drop behind text) e.0
      ]

  taken_commas : commas (map (bytes_of text) r) ≡ body (drop place text)
  taken_commas = ap commas held_here ∙ commas-pieces (body (drop place text))

  taken_row : Row width (map (bytes_of text) r)
  taken_row = (
    length-map r (bytes_of text) ∙ t.count,
    rw held_here (pieces_field [] (body (drop place text)) tt (body_record (drop place text))),
  )

  taken_joined : (rs : List (List Field)) → ReadsOn width text behind rs → Joined text behind (contents text rs)
      → Joined text place (contents text (r ∷ rs))
  taken_joined rs on j =
      elim t.ends [
        | inl e ↦
            let end : length text ≤ behind = omega (arith, ap length e.0, length-drop place text) in
            inr (ap (λ bs. bs ++ (13 ∷ 10 ∷ [])) (e.0 ∙ sym taken_commas) ∙ ap (λ qs. written (map (bytes_of text) r ∷ contents text qs)) (sym (at_end width text behind rs end on)))
        | inr e ↦
            let here : drop place text ≡ commas (map (bytes_of text) r) ++ (13 ∷ 10 ∷ drop behind text) = e.0 ∙ ap (λ bs. bs ++ (13 ∷ 10 ∷ drop behind text)) (sym taken_commas) in
            elim j [
              | inl w ↦ inl (here ∙ ap (λ bs. commas (map (bytes_of text) r) ++ (13 ∷ 10 ∷ bs)) w)
              | inr w ↦ inr (ap (λ bs. bs ++ (13 ∷ 10 ∷ [])) here ∙ append_assoc (commas (map (bytes_of text) r)) (13 ∷ 10 ∷ drop behind text) (13 ∷ 10 ∷ []) ∙ ap (λ bs. commas (map (bytes_of text) r) ++ (13 ∷ 10 ∷ bs)) w)
            ]
      ]

on_rejoins : (width : ℕ) (text : List ℕ) (place : ℕ) (rs : List (List Field)) → ReadsOn width text place rs
    → AllByRecursion (Row width) (contents text rs) × Joined text place (contents text rs)
on_rejoins width text place [] e = (tt, inl (drop_all place text (next_none width text place e)))
on_rejoins width text place (r ∷ rs) e =
    let t = (next_taken width text place r e.0 e.1).1 in
    let more = on_rejoins width text e.0 rs e.2 in
    ((taken_row width text place r e.0 t, more.0), taken_joined width text place r e.0 t rs e.2 more.1)

-- joining the fields of an accepted text gives the text back
pub rejoins : (width limit : ℕ) (text : List ℕ) → Rejoins width limit text
unfolding Rejoins
rejoins width limit text [] a = absurd a
rejoins width limit text (r ∷ rs) a =
    let t = (opened_taken width limit text r a.0 a.1).1 in
    let more = on_rejoins width text a.0 rs a.2 in
    ((taken_row width text 0 r a.0 t, more.0), taken_joined width text 0 r a.0 t rs a.2 more.1)
