-- The bytes behind a record that was read.
use Rattle.std.proofs.Common.{◌≡◌, ℕ, ◌+◌, List, [], ◌∷◌, ◌⊎◌, Ok, drop, refl, inl, inr, arith}
use Rattle.std.proofs.lemmas.Bool.Decides.{nat_tests}
use Rattle.lines.specs.Scanning.{next_line}

pub line_ends : (end : ℕ) (bytes : List ℕ) (next : ℕ) → next_line end bytes ≡ Ok next
    → ((bytes ≡ []) × (next ≡ end)) ⊎ ((bytes ≡ 13 ∷ 10 ∷ drop 2 bytes) × (next ≡ end + 2))
line_ends end [] next e = inl (refl, cc)
line_ends end (b ∷ []) next e = absurd (grind (arith, nat_tests))
line_ends end (b ∷ (c ∷ cs)) next e = inr (grind (arith, nat_tests), grind (arith, nat_tests))
