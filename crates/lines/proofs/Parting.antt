-- The fields that a separator parts, one byte at a time.
use Rattle.std.proofs.Common.{◌≡◌, ℕ, ◌+◌, ◌<◌, ◌≤◌, eqb, List, [], ◌∷◌, length, get_or, drop, ap, ◌∙◌, add_assoc, arith}
use Rattle.std.proofs.lemmas.List.{at_drop_more, at_drop_all}
use Rattle.std.proofs.lemmas.Bool.{cond_both, cond-true, cond-false, eq-eqb, ne_eqb}
use Rattle.lines.specs.declared.field.Field.{Field}
use Rattle.lines.specs.Fields.{between, parted}

-- there is a field at the least
pub parted_some : (separator start at : ℕ) (bytes : List ℕ) → 1 ≤ length (parted separator start at bytes)
parted_some separator start at [] = omega arith
parted_some separator start at (b ∷ bs) =
    cond_both (eqb b separator) _ _ (λ (fs : List Field). 1 ≤ length fs) (λ _. omega arith) (λ _. parted_some separator start (at + 1) bs)

module _ (separator start place : ℕ) (bytes : List ℕ) (i : ℕ) where
  pub parted_here : i < length bytes → get_or bytes i 0 ≡ separator
      → parted separator start (place + i) (drop i bytes)
      ≡ between start (place + i) ∷ parted separator (place + i + 1) (place + (i + 1)) (drop (i + 1) bytes)
  parted_here h e =
      at_drop_more (parted separator start (place + i)) bytes i 0 h
      ∙ cond-true _ _ _ (eq-eqb _ _ e)
      ∙ ap (λ k. between start (place + i) ∷ parted separator (place + i + 1) k (drop (i + 1) bytes)) (add_assoc place i 1)

  pub parted_on : i < length bytes → (get_or bytes i 0 ≡ separator → ⊥)
      → parted separator start (place + i) (drop i bytes) ≡ parted separator start (place + (i + 1)) (drop (i + 1) bytes)
  parted_on h n =
      at_drop_more (parted separator start (place + i)) bytes i 0 h
      ∙ cond-false _ _ _ (ne_eqb _ _ n)
      ∙ ap (λ k. parted separator start k (drop (i + 1) bytes)) (add_assoc place i 1)

  pub parted_last : length bytes ≤ i → parted separator start (place + i) (drop i bytes) ≡ between start (place + i) ∷ []
  parted_last h = at_drop_all (parted separator start (place + i)) bytes i h
