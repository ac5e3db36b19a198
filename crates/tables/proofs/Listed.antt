-- What a record lists has a number.
use Rattle.std.proofs.Common.{◌≡◌, ℕ, ◌<◌, true, false, ◌⊎◌, List, [], ◌∷◌, ◌++◌, length, is_some, Some, None, fold, Option, sym, refl, ap, ◌∙◌, inl, inr, arith}
use Rattle.lines.specs.declared.field.Field.{Field}
use Rattle.std.proofs.lemmas.Bool.{cond_both, false≢true, or_cases, or_left, or_right}
use Rattle.std.proofs.lemmas.List.Folds.{list_any-append}
use Rattle.std.specs.Str.{bytes_eq}
use Rattle.tables.specs.declared.row.Access.{Access}
use Rattle.tables.specs.declared.row.Access.TheVariants.{Read, Write}
use Rattle.tables.specs.Entering.{Table}
use Rattle.tables.specs.Numbering.{number_of}
use Rattle.tables.specs.Tabulating.{name_in, cells_of, all_cells, one_of, with_name, Lists, Tabulates}
use Rattle.tables.proofs.Numbers.{same_refl, same_true, number_below, number_name, known_number}

module _ (x : List ℕ) where
  one_left : (xs ys : List (List ℕ)) → one_of x xs ≡ true → one_of x (xs ++ ys) ≡ true
  one_left xs ys e = list_any-append (λ y. bytes_eq y x) xs ys ∙ or_left _ (one_of x ys) e

  one_right : (xs ys : List (List ℕ)) → one_of x ys ≡ true → one_of x (xs ++ ys) ≡ true
  one_right xs ys e = list_any-append (λ y. bytes_eq y x) xs ys ∙ or_right (one_of x xs) _ e

  -- a name that was seen, or that comes, is among the names of first appearance
  one_with : (seen : List (List ℕ)) (y : List ℕ) → (one_of x seen ≡ true) ⊎ (y ≡ x) → one_of x (with_name seen y) ≡ true
  one_with seen y (inl e) =
      cond_both (one_of y seen) _ _ (λ s. one_of x s ≡ true) (λ _. e) (λ _. one_left seen (y ∷ []) e)
  one_with seen y (inr e) =
      cond_both (one_of y seen) _ _ (λ s. one_of x s ≡ true)
      (λ t. ap (λ z. one_of z seen) (sym e) ∙ t)
      (λ _. one_right seen (y ∷ []) (or_left (bytes_eq y x) false (ap (λ z. bytes_eq z x) e ∙ same_refl x)))

  one_first : (seen xs : List (List ℕ)) → (one_of x seen ≡ true) ⊎ (one_of x xs ≡ true) → one_of x (fold with_name seen xs) ≡ true
  one_first seen [] (inl e) = e
  one_first seen [] (inr e) = absurd (let z : ◌≡◌ {A = ℕ} 0 1 = cc in omega arith)
  one_first seen (y ∷ xs) (inl e) = one_first (with_name seen y) xs (inl (one_with seen y (inl e)))
  one_first seen (y ∷ xs) (inr e) =
      one_first (with_name seen y) xs
      (elim (or_cases (bytes_eq y x) (one_of x xs) e) [ inl s ↦ inl (one_with seen y (inr (same_true y x s))) | inr o ↦ inr o ])

module _ (text : List ℕ) (access : Access) (event cell : List ℕ) where
  one_of_record : (a : Access) (r : List Field) → one_of cell (cells_of text a r) ≡ true
      → one_of cell (cells_of text Read r ++ cells_of text Write r) ≡ true
  one_of_record Read r e = one_left cell (cells_of text Read r) (cells_of text Write r) e
  one_of_record Write r e = one_right cell (cells_of text Read r) (cells_of text Write r) e

  one_of_all : (rs : List (List Field)) → Lists text access event cell rs → one_of cell (all_cells text rs) ≡ true
  one_of_all [] l = absurd l
  one_of_all (r ∷ rs) (inl l) =
      one_left cell (cells_of text Read r ++ cells_of text Write r) (all_cells text rs) (one_of_record access r l.1)
  one_of_all (r ∷ rs) (inr l) =
      one_right cell (cells_of text Read r ++ cells_of text Write r) (all_cells text rs) (one_of_all rs l)

  pub cell_known : (rs : List (List Field)) (t : Table) → Tabulates text rs t → Lists text access event cell rs
      → (c : ℕ) × (c < length t.cells) × (name_in text t.cells c ≡ cell)
  cell_known rs t tab l = go (number_of text t.cells cell) refl
    where
      some : is_some (number_of text t.cells cell) ≡ true
      some =
          sym (known_number text t.cells cell) ∙ ap (one_of cell) tab.cells.order
          ∙ one_first cell [] (all_cells text rs) (inr (one_of_all rs l))

      go : (o : Option ℕ) → number_of text t.cells cell ≡ o → (c : ℕ) × (c < length t.cells) × (name_in text t.cells c ≡ cell)
      go (Some c) e = (c, number_below text t.cells cell c e, number_name text t.cells cell c e)
      go None e = absurd (false≢true (sym (ap is_some e) ∙ some))
