-- An adding adds one content: what follows from the laws of an order of contents.
use Rattle.std.proofs.Common.{◌≡◌, ◌⊎◌, ◌↔◌, List, [], ◌∷◌, get_or, Decides, Ordering, Less, Equal, Greater, sym, refl, ap, ◌∙◌, subst, inl, inr, ⊎_elim}
use Rattle.std.specs.Cmp.{IsTotalOrder, Equal-is, tied_itself}
use Rattle.std.specs.Ordering.{ordering_reverse, is_eq, match_ordering}
use Rattle.std.specs.List.Sorted.{IsStrictlySortedBy}
use Rattle.std.specs.BTreeSet.{insert_key}
use Rattle.std.specs.Set.{is_member}
use Rattle.std.proofs.lemmas.Bool.{true≢false}
use Rattle.std.proofs.lemmas.Bool.Decides.{Decides-or}
use Rattle.std.proofs.lemmas.Map.Keys.{Less-from_sorted}
use Rattle.ordered.specs.Insertion.{Holds, Distinct, by_content, same_content, added, insert_all, InTurn}
use Rattle.ordered.proofs.Membership.{rising_insert, all_added}

module _ {A C : Type 0} (content : A → C) (order : C → C → Ordering)
    (same : (a b : C) → order a b ≡ Equal → a ≡ b)
    (converse : (a b : C) → order b a ≡ ordering_reverse (order a b))
    (transitive : (a b c : C) → order a b ≡ Less → order b c ≡ Less → order a c ≡ Less) where
  -- elements have a total order
  pub total : IsTotalOrder (by_content content order)
  total = record {
    antisymm = λ x y. converse (content y) (content x);
    trans = λ x y z. transitive (content x) (content y) (content z);
    congr = λ x y z e. ap (λ a. order a (content z)) (same (content x) (content y) e);
  }

  -- those are equal that have the same content
  pub same_decides : (x y : A) → Decides (same_content content order x y) (content y ≡ content x)
  same_decides x y = (
    λ e. sym (same (content x) (content y) ((Equal-is (by_content content order x y)).0 e)),
    λ e. (Equal-is (by_content content order x y)).1 (ap (order (content x)) e ∙ tied_itself total x),
  )

  -- an element is found in a list exactly if the list holds its content
  pub member_decides : (x : A) (xs : List A) → Decides (is_member (same_content content order) xs x) (Holds content (content x) xs)
  member_decides x [] = (λ e. cc, λ h. absurd h)
  member_decides x (y ∷ ys) =
      Decides-or (same_content content order x y) (is_member (same_content content order) ys x) (same_decides x y) (member_decides x ys)

  -- one content is added
  holds_insert : (x : A) (xs : List A) (a : C) → Holds content a (insert_key (by_content content order) xs x) ↔ (Holds content a xs ⊎ (content x ≡ a))
  holds_insert x [] a = (⊎_elim inr absurd, ⊎_elim absurd inl)
  holds_insert x (y ∷ ys) a = go (holds_insert x ys a) (order (content x) (content y)) refl
    where
      go : Holds content a (insert_key (by_content content order) ys x) ↔ (Holds content a ys ⊎ (content x ≡ a)) → (o : Ordering) → order (content x) (content y) ≡ o
          → Holds content a (match_ordering o (x ∷ y ∷ ys) (y ∷ ys) (y ∷ insert_key (by_content content order) ys x)) ↔ (Holds content a (y ∷ ys) ⊎ (content x ≡ a))
      go below Less e = (⊎_elim inr inl, ⊎_elim inr inl)
      go below Equal e = (inl, ⊎_elim (λ m. m) (λ q. inl (sym (same (content x) (content y) e) ∙ q)))
      go below Greater e = (
        ⊎_elim (λ q. inl (inl q)) (λ m. ⊎_elim (λ k. inl (inr k)) inr (below.0 m)),
        ⊎_elim (⊎_elim inl (λ k. inr (below.1 (inl k)))) (λ q. inr (below.1 (inr q))),
      )

  -- what an adding leaves rises, and holds one content more
  module _ (x : A) (xs ys : List A) (e : ys ≡ insert_key (by_content content order) xs x) where
    pub rises : IsStrictlySortedBy (by_content content order) xs → IsStrictlySortedBy (by_content content order) ys
    rises h = subst (IsStrictlySortedBy (by_content content order)) (sym e) (rising_insert total (λ p q. refl) x xs h)

    pub holds : (a : C) → Holds content a ys ↔ (Holds content a xs ⊎ (content x ≡ a))
    holds a = subst (λ (zs : List A). Holds content a zs ↔ (Holds content a xs ⊎ (content x ≡ a))) (sym e) (holds_insert x xs a)

  -- many addings
  holds_all : (xs ys : List A) (a : C) → Holds content a (insert_all (by_content content order) xs ys) ↔ (Holds content a ys ⊎ Holds content a xs)
  holds_all [] ys a = (inl, ⊎_elim (λ m. m) absurd)
  holds_all (x ∷ xs) ys a =
      let one = holds_insert x ys a in
      let more = holds_all xs (insert_key (by_content content order) ys x) a in (
        λ m. ⊎_elim (λ k. ⊎_elim inl (λ q. inr (inl q)) (one.0 k)) (λ k. inr (inr k)) (more.0 m),
        ⊎_elim (λ k. more.1 (inl (one.1 (inl k)))) (⊎_elim (λ q. more.1 (inl (one.1 (inr q)))) (λ k. more.1 (inr k))),
      )

  -- what rises has no content twice
  distinct : (xs : List A) → IsStrictlySortedBy (by_content content order) xs → Distinct content xs
  distinct xs h i j d lt within e =
      let less = Less-from_sorted (by_content content order) xs i j d h lt within in
      true≢false (sym ((same_decides (get_or xs i d) (get_or xs j d)).1 (sym e)) ∙ ap is_eq less)

  pub in_turn : (xs : List A) → InTurn content order xs
  in_turn xs =
      let all = all_added total (λ p q. refl) xs in
      let held : (a : C) → Holds content a (added content order xs) ↔ Holds content a xs =
      λ a. (λ m. ⊎_elim absurd (λ k. k) ((holds_all xs [] a).0 m), λ m. (holds_all xs [] a).1 (inr m)) in
      record {
        rising = all.0;
        distinct = distinct (added content order xs) all.0;
        unequal = all.1;
        holds = held;
        found = λ x. (
          λ m. (held (content x)).0 ((member_decides x (added content order xs)).0 m),
          λ m. (member_decides x (added content order xs)).1 ((held (content x)).1 m),
        );
        members = all.2;
      }
