-- What the bytes of the text are where a record was read.
use Rattle.std.proofs.Common.{◌≡◌, ℕ, ◌+◌, ◌<◌, ◌≤◌, eqb, ltb, leb, ◌⊎◌, List, ◌∷◌, ◌++◌, length, drop, Some, None, Ok, Err, Result, sym, refl, ap, ◌∙◌, inl, inr, arith}
use Rattle.std.proofs.lemmas.List.{append-nil, take-append-drop}
use Rattle.std.proofs.lemmas.Bool.{cond_both, eqb-true, leb-true, leb-false, ltb-false}
use Rattle.lines.specs.declared.fault.LinesFault.{LinesFault}
use Rattle.lines.specs.declared.field.Field.{Field}
use Rattle.lines.specs.Fields.{fields_at}
use Rattle.lines.specs.Scanning.{body, next_line}
use Rattle.lines.specs.Reading.{counted_as, ended, record_at, opened, some, next_record}
use Rattle.lines.proofs.Bodies.{body_front}
use Rattle.lines.proofs.Endings.{line_ends}
use Rattle.lines.proofs.Pieces.{drop_behind}

-- a record with its own bytes, which the end of the text or CR LF follows
pub record Taken (width : ℕ) (text : List ℕ) (place : ℕ) (r : List Field) (behind : ℕ) : Type 0 where
  pub fields : fields_at place (body (drop place text)) ≡ r
  pub count : length r ≡ width
  pub ends : ((drop place text ≡ body (drop place text)) × (behind ≡ place + length (body (drop place text))))
      ⊎ ((drop place text ≡ body (drop place text) ++ (13 ∷ 10 ∷ drop behind text)) × (behind ≡ place + (length (body (drop place text)) + 2)))

-- a counted record has the width
counted_taken : (width place : ℕ) (bytes : List ℕ) (next behind : ℕ) (r : List Field) → counted_as width place bytes next ≡ Ok (r, behind)
    → (length (fields_at place bytes) ≡ width) × (fields_at place bytes ≡ r) × (next ≡ behind)
counted_taken width place bytes next behind r =
    cond_both (eqb (length (fields_at place bytes)) width) _ _
    (λ (x : Result (List Field × ℕ) LinesFault). x ≡ Ok (r, behind) → (length (fields_at place bytes) ≡ width) × (fields_at place bytes ≡ r) × (next ≡ behind))
    (λ t e. let same : ◌≡◌ {A = List Field × ℕ} (fields_at place bytes, next) (r, behind) = cc in (eqb-true (length (fields_at place bytes)) width t, ap (λ p. p.0) same, ap (λ p. p.1) same))
    (λ _ e. absurd cc)

module _ (width : ℕ) (text : List ℕ) (place : ℕ) (r : List Field) (behind : ℕ) where
  front : drop place text ≡ body (drop place text) ++ drop (length (body (drop place text))) (drop place text)
  front =
      sym (take-append-drop (length (body (drop place text))) (drop place text))
      ∙ ap (λ bs. bs ++ drop (length (body (drop place text))) (drop place text)) (body_front (drop place text))

  by_ending : (e : Result ℕ LinesFault)
      → next_line (place + length (body (drop place text))) (drop (length (body (drop place text))) (drop place text)) ≡ e
      → ended width place (body (drop place text)) e ≡ Ok (r, behind) → Taken width text place r behind
  by_ending (Ok next) e q =
      let own : List ℕ = body (drop place text) in
      let k = counted_taken width place own next behind r q in
      record {
        fields = k.1;
        count = ap length (sym k.1) ∙ k.0;
        ends = elim (line_ends (place + length own) (drop (length own) (drop place text)) next e) [
          | inl l ↦ inl (front ∙ ap (λ bs. own ++ bs) l.0 ∙ append-nil own, omega (arith, k.2, l.1))
          | inr l ↦
              let at : behind ≡ place + (length own + 2) = omega (arith, k.2, l.1) in
              let rest = drop_behind text own (drop (length own) (drop place text)) place 2 front in
              inr (front ∙ ap (λ bs. own ++ bs) (l.0 ∙ ap (λ bs. 13 ∷ 10 ∷ bs) (sym rest ∙ ap (λ n. drop n text) (sym at))), at)
        ];
      }
  by_ending (Err f) e q = absurd cc

  pub taken : record_at width text place ≡ Ok (r, behind) → Taken width text place r behind
  taken q =
      by_ending (next_line (place + length (body (drop place text))) (drop (length (body (drop place text))) (drop place text))) refl q

  some_ok : (x : Result (List Field × ℕ) LinesFault) → some x ≡ Ok (Some (r, behind)) → x ≡ Ok (r, behind)
  some_ok (Ok read) e = cc
  some_ok (Err f) e = cc

  pub next_taken : next_record width text place ≡ Ok (Some (r, behind)) → (place < length text) × Taken width text place r behind
  next_taken =
      cond_both (leb (length text) place) _ _
      (λ x. x ≡ Ok (Some (r, behind)) → (place < length text) × Taken width text place r behind)
      (λ _ e. absurd cc)
      (λ t e. (leb-false (length text) place t, taken (some_ok (record_at width text place) e)))

not_none : (x : Result (List Field × ℕ) LinesFault) → some x ≡ Ok None → ⊥
not_none (Ok read) e = cc
not_none (Err f) e = cc

-- only the end of the text has no further record
pub next_none : (width : ℕ) (text : List ℕ) (place : ℕ) → next_record width text place ≡ Ok None → length text ≤ place
next_none width text place =
    cond_both (leb (length text) place) _ _ (λ x. x ≡ Ok None → length text ≤ place)
    (λ t _. leb-true (length text) place t)
    (λ _ e. absurd (not_none (record_at width text place) e))

pub opened_taken : (width limit : ℕ) (text : List ℕ) (r : List Field) (behind : ℕ) → opened width limit text ≡ Ok (r, behind)
    → (length text ≤ limit) × Taken width text 0 r behind
opened_taken width limit text r behind =
    cond_both (ltb limit (length text)) _ _
    (λ x. x ≡ Ok (r, behind) → (length text ≤ limit) × Taken width text 0 r behind)
    (λ _ e. absurd cc)
    (λ t e. (ltb-false limit (length text) t, taken width text 0 r behind e))
