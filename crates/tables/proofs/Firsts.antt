-- Names in the order of first appearance are distinct.
use Rattle.std.proofs.Common.{◌≡◌, ℕ, zero, suc, ◌<◌, ◌≤◌, true, false, List, [], ◌∷◌, ◌++◌, length, get_or, fold, sym, ap, ◌∙◌, inl, inr, arith}
use Rattle.std.proofs.lemmas.List.{get_or_append_left, get_or_push, length_push}
use Rattle.std.proofs.lemmas.Bool.{both_ways, cases_lt, cond_both, or_left, or_right}
use Rattle.tables.specs.Tabulating.{one_of, with_name, firsts}
use Rattle.tables.proofs.Numbers.{same_refl}

abbrev pub Distinct : List (List ℕ) → Type 0
Distinct xs = (m n : ℕ) → m < length xs → n < length xs → get_or xs m [] ≡ get_or xs n [] → m ≡ n

one_at : (xs : List (List ℕ)) (n : ℕ) → n < length xs → one_of (get_or xs n []) xs ≡ true
one_at [] n h = absurd (omega arith)
one_at (x ∷ xs) zero h = or_left _ _ (same_refl x)
one_at (x ∷ xs) (suc n) h = or_right _ _ (one_at xs n (omega arith))

module _ (xs : List (List ℕ)) (x : List ℕ) (distinct : Distinct xs) (new : one_of x xs ≡ false) where
  -- the new name is none of the others
  apart : (m n : ℕ) → m < length xs → length xs ≤ n → n < length (xs ++ x ∷ []) → get_or (xs ++ x ∷ []) m [] ≡ get_or (xs ++ x ∷ []) n [] → ⊥
  apart m n h k l e =
      let at : length xs ≡ n = omega (arith, length_push xs x) in
      let is : get_or xs m [] ≡ x = sym (get_or_append_left xs (x ∷ []) [] m h) ∙ e ∙ get_or_push xs x [] n at in
      both_ways (one_of x xs) new (ap (λ y. one_of y xs) (sym is) ∙ one_at xs m h)

  distinct_push : Distinct (xs ++ x ∷ [])
  distinct_push m n h k e =
      elim (cases_lt m (length xs)) [
        | inl a ↦
            elim (cases_lt n (length xs)) [
              | inl b ↦ distinct m n a b (sym (get_or_append_left xs (x ∷ []) [] m a) ∙ e ∙ get_or_append_left xs (x ∷ []) [] n b)
              | inr b ↦ absurd (apart m n a b k e)
            ]
        | inr a ↦
            elim (cases_lt n (length xs)) [
              | inl b ↦ absurd (apart n m b a h (sym e))
              | inr b ↦ omega (arith, length_push xs x)
            ]
      ]

distinct_from : (seen xs : List (List ℕ)) → Distinct seen → Distinct (fold with_name seen xs)
distinct_from seen [] d = d
distinct_from seen (x ∷ xs) d =
    distinct_from (with_name seen x) xs
    (cond_both (one_of x seen) _ _ Distinct (λ _. d) (λ new. distinct_push seen x d new))

pub distinct_firsts : (xs : List (List ℕ)) → Distinct (firsts xs)
distinct_firsts xs = distinct_from [] xs (λ m n h k e. absurd (omega arith))
