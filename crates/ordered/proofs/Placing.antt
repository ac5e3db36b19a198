-- What a binary search of a list in order finds.
use Rattle.std.proofs.Common.{◌≡◌, ℕ, zero, suc, ◌+◌, ◌≤◌, Bool, false, List, [], ◌∷◌, ◌++◌, length, get_or, take, drop, Ok, Err, Result, Ordering, Less, Equal, Greater, refl, ap, ◌∙◌, arith}
use Rattle.std.specs.Cmp.{IsTotalOrder}
use Rattle.std.specs.Ordering.{eq_by_cmp, is_lt, ordering_index, match_ordering}
use Rattle.std.specs.List.Sorted.{IsStrictlySortedBy, IsNonDecreasingBy, IsPartitionPoint, IsBinarySearchResult, IsSearchInRange}
use Rattle.std.specs.BTreeSet.{insert_key}
use Rattle.std.specs.Set.{is_member}
use Rattle.std.proofs.lemmas.Bool.{or_from}
use Rattle.std.proofs.lemmas.List.Folds.{list_any_at}
use Rattle.std.proofs.lemmas.List.Sorted.{searchable_from_sorted}
use Rattle.std.proofs.lemmas.Map.Keys.{Less-from_sorted}
use Rattle.ordered.specs.Insertion.{Placed}
use Rattle.ordered.proofs.Membership.{turned, tested, insert_known}

module _ {A : Type 0} {eq : A → A → Bool} {cmp : A → A → Ordering} (o : IsTotalOrder cmp) (ties : (x y : A) → eq x y ≡ eq_by_cmp cmp x y) (x : A) where
  searchable : (xs : List A) → IsStrictlySortedBy cmp xs → IsNonDecreasingBy (λ y. ordering_index (cmp y x)) xs
  searchable xs h =
      searchable_from_sorted o (λ y. y) xs x
      (λ k d a b. ap is_lt (turned o ties (get_or xs k d) (get_or xs (k + 1) d) Less (Less-from_sorted cmp xs k (k + 1) d h (omega arith) b)))

  abbrev Gap : List A → ℕ → Type 0
  Gap xs p = (is_member eq xs x ≡ false) × (insert_key cmp xs x ≡ take p xs ++ x ∷ drop p xs)

  -- between the less and the greater
  gap : (xs : List A) (p : ℕ) → p ≤ length xs → IsPartitionPoint (λ y. cmp y x ≡ Less) (λ y. cmp y x ≡ Greater) xs p → Gap xs p
  gap [] zero lt h = (refl, refl)
  gap [] (suc p) lt h = absurd (omega arith)
  gap (y ∷ ys) zero lt h =
      let e : cmp x y ≡ Less = turned o ties y x Greater (h.1 0 y (omega arith) (omega arith)) in
      let below = gap ys zero (omega arith) ((λ k d a b. absurd (omega arith)), λ k d a b. h.1 (suc k) d (omega arith) (omega arith)) in
      (or_from (eq x y) (is_member eq ys x) (tested o ties x y Less e) below.0, ap (λ r. match_ordering r (x ∷ y ∷ ys) (y ∷ ys) (y ∷ insert_key cmp ys x)) e)
  gap (y ∷ ys) (suc p) lt h =
      let e : cmp x y ≡ Greater = turned o ties y x Less (h.0 0 y (omega arith) (omega arith)) in
      let below = gap ys p (omega arith) ((λ k d a b. h.0 (suc k) d (omega arith) (omega arith)), λ k d a b. h.1 (suc k) d (omega arith) (omega arith)) in (
        or_from (eq x y) (is_member eq ys x) (tested o ties x y Greater e) below.0,
        ap (λ r. match_ordering r (x ∷ y ∷ ys) (y ∷ ys) (y ∷ insert_key cmp ys x)) e ∙ ap (λ zs. y ∷ zs) below.1,
      )

  pub placed : (xs : List A) (r : Result ℕ ℕ) → IsStrictlySortedBy cmp xs → IsSearchInRange r (length xs) → IsBinarySearchResult (λ y. cmp y x) xs r → Placed eq cmp x xs r
  placed xs (Ok p) h lt at =
      let found = list_any_at (eq x) xs p x lt (tested o ties x (get_or xs p x) Equal (turned o ties (get_or xs p x) x Equal (at x))) in
      (found, insert_known o ties x xs h found)
  placed xs (Err p) h le at = let g = gap xs p le (at (searchable xs h)) in (le, g.0, g.1)
