-- The bytes of a field lie within its text.
use Rattle.std.proofs.Common.{◌+◌, ◌<◌, ◌≤◌, ℕ, List, length, arith, length-drop, length-take, ◌-◌}
use native.Mathlib.Nat.{min-le_right}
use Rattle.lines.specs.declared.field.Field.{Field}
use Rattle.lines.specs.Fields.{bytes_of}

-- a field that holds a byte of its text ends within the text
pub bytes_within : (text : List ℕ) (f : Field) → 0 < length (bytes_of text f) → f.start + length (bytes_of text f) ≤ length text
bytes_within text f =
    simp (length-take, length-drop) (λ h. omega (arith, min-le_right f.len (length text - f.start)))
