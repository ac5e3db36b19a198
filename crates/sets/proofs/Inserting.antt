-- How a list in order grows by addings, and what a map that keeps the order makes of it.
use Rattle.std.proofs.Common.{◌≡◌, suc, ◌≤◌, List, [], ◌∷◌, ◌++◌, length, map, Ordering, Less, Equal, Greater, refl, ap, ◌∙◌, arith}
use Rattle.std.specs.Ordering.{match_ordering}
use Rattle.std.specs.BTreeSet.{insert_key}
use Rattle.ordered.specs.Insertion.{insert_all}

module _ {A : Type 0} (cmp : A → A → Ordering) where
  pub insert_grows : (x : A) (xs : List A) → length xs ≤ length (insert_key cmp xs x)
  insert_grows x [] = omega arith
  insert_grows x (y ∷ ys) = go (cmp x y) (insert_grows x ys)
    where
      go : (o : Ordering) → length ys ≤ length (insert_key cmp ys x)
          → suc (length ys) ≤ length (match_ordering o (x ∷ y ∷ ys) (y ∷ ys) (y ∷ insert_key cmp ys x))
      go Less below = omega arith
      go Equal below = omega arith
      go Greater below = omega arith

  pub insert-append : (xs ys zs : List A) → insert_all cmp (xs ++ ys) zs ≡ insert_all cmp ys (insert_all cmp xs zs)
  insert-append [] ys zs = refl
  insert-append (x ∷ xs) ys zs = insert-append xs ys (insert_key cmp zs x)

module _ {A B : Type 0} (f : A → B) (cmp : A → A → Ordering) (order : B → B → Ordering) (same : (x y : A) → cmp x y ≡ order (f x) (f y)) where
  pub map-insert : (x : A) (xs : List A) → map f (insert_key cmp xs x) ≡ insert_key order (map f xs) (f x)
  map-insert x [] = refl
  map-insert x (y ∷ ys) =
      ap (λ o. map f (match_ordering o (x ∷ y ∷ ys) (y ∷ ys) (y ∷ insert_key cmp ys x))) (same x y)
      ∙ go (order (f x) (f y)) (map-insert x ys)
    where
      go : (o : Ordering) → map f (insert_key cmp ys x) ≡ insert_key order (map f ys) (f x)
          → map f (match_ordering o (x ∷ y ∷ ys) (y ∷ ys) (y ∷ insert_key cmp ys x))
          ≡ match_ordering o (f x ∷ f y ∷ map f ys) (f y ∷ map f ys) (f y ∷ insert_key order (map f ys) (f x))
      go Less below = refl
      go Equal below = refl
      go Greater below = ap (λ zs. f y ∷ zs) below
