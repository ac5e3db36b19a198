-- A record that was read ends behind its place and within the text, and has the width.
use Rattle.std.proofs.Common.{◌≡◌, ℕ, ◌<◌, ◌≤◌, List, length, Some, Ok, ap, inl, inr, arith, length-append, length-drop}
use Rattle.lines.specs.declared.field.Field.{Field}
use Rattle.lines.specs.Reading.{record_at, opened, next_record}
use Rattle.lines.proofs.Taken.{Taken, taken, next_taken, opened_taken}

taken_forward : (width : ℕ) (text : List ℕ) (place : ℕ) (r : List Field) (behind : ℕ) → Taken width text place r behind
    → place ≤ length text → (place < length text → place < behind) × (behind ≤ length text)
taken_forward width text place r behind t h =
    elim t.ends [
      | inl e ↦ omega (arith, ap length e.0, length-drop place text)
      | inr e ↦ omega (arith, simp length-append at (ap length e.0), length-drop place text)
    ]

pub record_forward : (width : ℕ) (text : List ℕ) (place : ℕ) (r : List Field) (behind : ℕ)
    → record_at width text place ≡ Ok (r, behind) → place < length text → (place < behind) × (behind ≤ length text)
record_forward width text place r behind e h =
    let w = taken_forward width text place r behind (taken width text place r behind e) (omega arith) in
    (w.0 h, w.1)

pub next_forward : (width : ℕ) (text : List ℕ) (place : ℕ) (r : List Field) (behind : ℕ)
    → next_record width text place ≡ Ok (Some (r, behind)) → (place < behind) × (behind ≤ length text)
next_forward width text place r behind e =
    let t = next_taken width text place r behind e in
    let w = taken_forward width text place r behind t.1 (omega arith) in
    (w.0 t.0, w.1)

pub next_width : (width : ℕ) (text : List ℕ) (place : ℕ) (r : List Field) (behind : ℕ)
    → next_record width text place ≡ Ok (Some (r, behind)) → length r ≡ width
next_width width text place r behind e = (next_taken width text place r behind e).1.count

pub opened_within : (width limit : ℕ) (text : List ℕ) (r : List Field) (behind : ℕ)
    → opened width limit text ≡ Ok (r, behind) → behind ≤ length text
opened_within width limit text r behind e =
    (taken_forward width text 0 r behind (opened_taken width limit text r behind e).1 (omega arith)).1

pub opened_width : (width limit : ℕ) (text : List ℕ) (r : List Field) (behind : ℕ)
    → opened width limit text ≡ Ok (r, behind) → length r ≡ width
opened_width width limit text r behind e = (opened_taken width limit text r behind e).1.count
