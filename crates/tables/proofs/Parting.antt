-- An apart list is what its records say.
use Rattle.std.proofs.Common.{◌≡◌, ℕ, ◌<◌, ◌≤◌, eqb, ltb, ◌⊎◌, ◌↔◌, List, [], ◌∷◌, length, get_or, Some, Ok, Option, Result, sym, ap, ◌∙◌, subst, inl, inr, ⊎_elim, arith}
use Rattle.lines.specs.declared.field.Field.{Field}
use Rattle.ordered.proofs.Membership.{all_insert, rising_insert, member_insert}
use Rattle.tables.proofs.PairOrder.{pairs_total, pairs_tie, pairs_same}
use Rattle.std.proofs.lemmas.List.Elements.{All-from_recursion, All-weaker}
use Rattle.std.proofs.lemmas.Bool.Decides.{Decides-or}
use Rattle.std.proofs.lemmas.Map.Made.{is_member-Decides}
use Rattle.std.proofs.lemmas.Bool.{cond_both, cond-true, cond-false, eqb-false, le-ltb, lt-ltb}
use Rattle.std.specs.BTreeSet.{insert_key}
use Rattle.std.specs.List.{AllByRecursion, Contains}
use Rattle.std.specs.List.Sorted.{IsStrictlySortedBy}
use Rattle.std.specs.Set.{is_member}
use Rattle.tables.specs.declared.fault.NamesFault.{NamesFault}
use Rattle.tables.specs.Entering.{Table}
use Rattle.tables.specs.Knowing.{known_in}
use Rattle.tables.specs.Listing.{left_of, right_of, NamesBoth, ListsBoth, Apart}
use Rattle.tables.specs.Numbering.{no_field}
use Rattle.tables.specs.Heading.{opened_by}
use Rattle.tables.specs.Pairing.{Pair, pair_cmp, pair_eq, as_pair, with_pair, add_pair, apart_header, pairs_in, OfFew}
use Rattle.tables.proofs.Heads.{opened_is}
use Rattle.tables.proofs.Known.{known_number, known_below}
use Rattle.tables.proofs.Ranking.{few_pairs}
use Rattle.tables.proofs.Rooming.{pair_of}
use Rattle.tables.proofs.Turns.{ok_same, and_then_made, add_all, records_read}

-- what a pair of two processes is
module _ (place p q : ℕ) (xs ys : List Pair) where
  abbrev Put : Type 0
  Put = (p ≡ q → ⊥) × (ys ≡ insert_key pair_cmp xs (as_pair p q))

  with_is : with_pair place p q xs ≡ Ok ys → Put
  with_is =
      cond_both (eqb p q) _ _ (λ (o : Result (List Pair) NamesFault). o ≡ Ok ys → Put)
      (λ _ e. let z : ◌≡◌ {A = ℕ} 0 1 = cc in absurd (omega arith))
      (λ n.
      cond_both (is_member pair_eq xs (as_pair p q)) _ _ (λ (o : Result (List Pair) NamesFault). o ≡ Ok ys → Put)
      (λ _ e. let z : ◌≡◌ {A = ℕ} 0 1 = cc in absurd (omega arith))
      (λ _ e. (eqb-false p q n, sym (ok_same _ ys e))))

module _ (a b p q : ℕ) (h : p < q) where
  -- in either order
  abbrev Either : Type 0
  Either = ((a ≡ p) × (b ≡ q)) ⊎ ((a ≡ q) × (b ≡ p))

  from_pair : as_pair a b ≡ (p, q) → Either
  from_pair =
      cond_both (ltb a b) _ _ (λ (x : Pair). x ≡ (p, q) → Either)
      (λ _ e. inl (ap (λ (x : Pair). x.0) e, ap (λ (x : Pair). x.1) e))
      (λ _ e. inr (ap (λ (x : Pair). x.1) e, ap (λ (x : Pair). x.0) e))

  to_pair : Either → as_pair a b ≡ (p, q)
  to_pair =
      ⊎_elim
      (λ (e : (a ≡ p) × (b ≡ q)). cond-true (ltb a b) (a, b) (b, a) (lt-ltb a b (omega arith)) ∙ λ i. (e.0 i, e.1 i))
      (λ (e : (a ≡ q) × (b ≡ p)). cond-false (ltb a b) (a, b) (b, a) (le-ltb a b (omega arith)) ∙ λ i. (e.1 i, e.0 i))

-- what an adding leaves is what was there, and the pair
one_more : (x : Pair) (xs ys : List Pair) → ys ≡ insert_key pair_cmp xs x → (z : Pair) → Contains ys z ↔ (Contains xs z ⊎ (z ≡ x))
one_more x xs ys put z =
    let e = ap (λ (us : List Pair). is_member pair_eq us z) put ∙ member_insert pairs_total pairs_tie x xs z in
    let after = is_member-Decides pairs_same ys z in
    let either = Decides-or (is_member pair_eq xs z) (pair_eq z x) (is_member-Decides pairs_same xs z) (pairs_same z x) in
    (λ c. either.0 (sym e ∙ after.1 c), λ o. after.0 (e ∙ either.1 o))

some_same : (o : Option ℕ) (m n : ℕ) → o ≡ Some m → o ≡ Some n → m ≡ n
some_same o m n e f = cc

module _ (table : List ℕ) (t : Table) (text : List ℕ) where
  -- of two processes, the lower number first
  abbrev Within : Pair → Type 0
  Within x = (x.0 < x.1) × (x.1 < length t.processes)

  -- what was there, and what records list
  pub record Adds (rs : List (List Field)) (xs ys : List Pair) : Type 0 where
    pub rising : IsStrictlySortedBy pair_cmp xs → IsStrictlySortedBy pair_cmp ys
    pub within : AllByRecursion Within xs → AllByRecursion Within ys
    pub listed : (p q : ℕ) → p < q → Contains ys (p, q) ↔ (Contains xs (p, q) ⊎ ListsBoth table t text p q rs)

  record_adds : (r : List Field) (xs ys : List Pair) → add_pair table t text r xs ≡ Ok ys
      → (IsStrictlySortedBy pair_cmp xs → IsStrictlySortedBy pair_cmp ys) × (AllByRecursion Within xs → AllByRecursion Within ys)
      × ((p q : ℕ) → p < q → Contains ys (p, q) ↔ (Contains xs (p, q) ⊎ NamesBoth table t text p q r))
  record_adds r xs ys e =
      let left = and_then_made (known_in table t.processes text (get_or r 0 no_field)) _ ys e in
      let right = and_then_made (known_in table t.processes text (get_or r 1 no_field)) _ ys left.2 in
      let a = left.0 in
      let b = right.0 in
      let put = with_is (get_or r 1 no_field).start a b xs ys right.2 in
      let is-left : left_of table t text r ≡ Some a = known_number table t.processes text (get_or r 0 no_field) a left.1 in
      let is_right : right_of table t text r ≡ Some b = known_number table t.processes text (get_or r 1 no_field) b right.1 in
      let one = one_more (as_pair a b) xs ys put.1 in
      let both : (p q : ℕ) → p < q → (as_pair a b ≡ (p, q)) → NamesBoth table t text p q r =
      λ p q h m.
      ⊎_elim (λ (o : (a ≡ p) × (b ≡ q)). inl (is-left ∙ ap Some o.0, is_right ∙ ap Some o.1))
      (λ (o : (a ≡ q) × (b ≡ p)). inr (is-left ∙ ap Some o.0, is_right ∙ ap Some o.1)) (from_pair a b p q h m) in
      let back : (p q : ℕ) → p < q → NamesBoth table t text p q r → as_pair a b ≡ (p, q) =
      λ p q h m.
      to_pair a b p q h
      (⊎_elim
      (λ (o : (left_of table t text r ≡ Some p) × (right_of table t text r ≡ Some q)). inl (some_same _ a p is-left o.0, some_same _ b q is_right o.1))
      (λ (o : (left_of table t text r ≡ Some q) × (right_of table t text r ≡ Some p)). inr (some_same _ a q is-left o.0, some_same _ b p is_right o.1)) m) in (
        λ r. subst (IsStrictlySortedBy pair_cmp) (sym put.1) (rising_insert pairs_total pairs_tie (as_pair a b) xs r),
        λ w.
            subst (AllByRecursion Within) (sym put.1)
            (all_insert pair_cmp (as_pair a b) Within
            (pair_of (length t.processes) a b (known_below table t.processes text (get_or r 0 no_field) a left.1) (known_below table t.processes text (get_or r 1 no_field) b right.1) put.0) xs w),
        λ p q h. (
          λ m. ⊎_elim inl (λ k. inr (both p q h (sym k))) ((one (p, q)).0 m),
          ⊎_elim (λ k. (one (p, q)).1 (inl k)) (λ k. (one (p, q)).1 (inr (sym (back p q h k)))),
        ),
      )

  records_add : (rs : List (List Field)) (xs ys : List Pair) → add_all (add_pair table t text) rs xs ≡ Ok ys → Adds rs xs ys
  records_add [] xs ys e =
      subst (Adds [] xs) (ok_same xs ys e)
      (record { rising = λ r. r; within = λ w. w; listed = λ p q h. (inl, ⊎_elim (λ k. k) absurd) })
  records_add (r ∷ rs) xs ys e =
      let p = and_then_made (add_pair table t text r xs) _ ys e in
      let here = record_adds r xs p.0 p.1 in
      let more = records_add rs p.0 ys p.2 in
      record {
        rising = λ u. more.rising (here.0 u);
        within = λ w. more.within (here.1 w);
        listed = λ a b h. (
          λ m. ⊎_elim (λ k. ⊎_elim inl (λ n. inr (inl n)) ((here.2 a b h).0 k)) (λ k. inr (inr k)) ((more.listed a b h).0 m),
          ⊎_elim (λ k. (more.listed a b h).1 (inl ((here.2 a b h).1 (inl k))))
              (⊎_elim (λ n. (more.listed a b h).1 (inl ((here.2 a b h).1 (inr n)))) (λ k. (more.listed a b h).1 (inr k))),
        );
      }

  -- the law
  pub apart_list_lem : length t.processes ≤ 16 → (pairs : List Pair) → pairs_in table t text ≡ Ok pairs → Apart table t text pairs
  unfolding Apart IsStrictlySortedBy
  apart_list_lem few pairs e =
      let o = and_then_made (opened_by 8192 apart_header text) _ pairs e in
      let h = opened_is 8192 apart_header text o.0 o.1 in
      let r = records_read 2 (add_pair table t text) text o.0 [] pairs o.2 in
      let all = records_add r.0 [] pairs r.2 in
      let up = all.rising tt in
      let in_table = all.within tt in (
        h.0,
        r.0,
        (o.0, h.1, r.1),
        h.2,
        record {
          rising = up;
          within = in_table;
          listed = λ p q k. (λ m. ⊎_elim (λ c. absurd (omega (arith, c.1))) (λ n. n) ((all.listed p q k).0 m), λ m. (all.listed p q k).1 (inr m));
          few = few_pairs pairs up (All-weaker Within OfFew (λ x w. (w.0, omega (arith, w.1))) pairs (All-from_recursion Within pairs in_table));
        },
      )
