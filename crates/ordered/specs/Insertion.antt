-- Where an element goes into a list in the order cmp, and what many addings make.
use Rattle.std.specs.Prelude.{◌≡◌, ℕ, ◌<◌, ◌≤◌, Bool, true, false, ◌⊎◌, ◌↔◌, List, [], ◌∷◌, ◌++◌, length, take, drop, Ok, Err, Result, Decides, ◌≢◌, slice_index_or}
use Rattle.std.specs.declared.cmp.Ordering.{Ordering}
use Rattle.std.specs.Ordering.{eq_by_cmp}
use Rattle.std.specs.List.{IsDistinct}
use Rattle.std.specs.List.Sorted.{IsStrictlySortedBy}
use Rattle.std.specs.BTreeSet.{insert_key}
use Rattle.std.specs.Set.{is_member}

module _ {A C : Type 0} (content : A → C) where
  -- one of them has the content a
  abbrev pub Holds : C → List A → Type 0
  Holds a [] = ⊥
  Holds a (x ∷ xs) = (content x ≡ a) ⊎ Holds a xs

  -- no two of them have the same content
  abbrev pub Distinct : List A → Type 0
  Distinct xs = (i j : ℕ) (d : A) → i < j → j < length xs → content (slice_index_or xs i d) ≢ content (slice_index_or xs j d)

module _ {A C : Type 0} (content : A → C) (order : C → C → Ordering) where
  -- elements as their contents compare
  abbrev pub by_content : A → A → Ordering
  by_content x y = order (content x) (content y)

  -- whether the order has the two contents for the same
  abbrev pub same_content : A → A → Bool
  same_content = eq_by_cmp by_content

module _ {A : Type 0} (eq : A → A → Bool) (cmp : A → A → Ordering) where
  -- the place of one that is equal to x, or else the place where x goes in
  abbrev pub Placed : A → List A → Result ℕ ℕ → Type 0
  Placed x xs (Ok p) = (is_member eq xs x ≡ true) × (insert_key cmp xs x ≡ xs)
  Placed x xs (Err p) = (p ≤ length xs) × (is_member eq xs x ≡ false) × (insert_key cmp xs x ≡ take p xs ++ x ∷ drop p xs)

-- each of the first list added in turn to the second
abbrev pub insert_all : {A : Type 0} → (A → A → Ordering) → List A → List A → List A
insert_all cmp [] ys = ys
insert_all cmp (x ∷ xs) ys = insert_all cmp xs (insert_key cmp ys x)

module _ {A C : Type 0} (content : A → C) (order : C → C → Ordering) where
  -- xs added in turn from empty
  abbrev pub added : List A → List A
  added xs = insert_all (by_content content order) xs []

  -- what a list is to which xs were added in turn from empty
  pub record InTurn (xs : List A) : Type 0 where
    pub rising : IsStrictlySortedBy (by_content content order) (added xs)
    pub distinct : Distinct content (added xs)
    pub unequal : IsDistinct (same_content content order) (added xs)
    -- its contents are those that were added
    pub holds : (a : C) → Holds content a (added xs) ↔ Holds content a xs
    -- an element is found in it exactly if one of its content was added
    pub found : (x : A) → Decides (is_member (same_content content order) (added xs) x) (Holds content (content x) xs)
    pub members : (q : A) → is_member (same_content content order) (added xs) q ≡ is_member (same_content content order) xs q
