-- What putting x in at its place leaves, and what an answer says.
use Rattle.std.proofs.Common.{◌≡◌, ℕ, ◌+◌, ◌<◌, Bool, true, false, not, ◌||◌, cond, List, [], ◌∷◌, ◌++◌, length, take, drop, Ok, Err, Result, sym, refl, ap, ◌∙◌, subst, Ordering}
use Rattle.std.specs.Cmp.{IsTotalOrder}
use Rattle.std.specs.Ordering.{eq_by_cmp}
use Rattle.std.specs.List.Sorted.{IsStrictlySortedBy}
use Rattle.std.specs.BTreeSet.{insert_key}
use Rattle.std.specs.Set.{is_member}
use Rattle.std.proofs.lemmas.List.{at_drop_more}
use Rattle.ordered.specs.Insertion.{Placed}
use Rattle.ordered.specs.Lists.{members, spare, admitted, answer}
use Rattle.ordered.specs.declared.full.Full.{Full}
use Rattle.ordered.specs.declared.list.OrderedList.{OrderedList}
use Rattle.ordered.proofs.Membership.{rising_insert, member_insert}

-- x is put in at p among the first n of s, which leaves t
module _ {A : Type 0} {eq : A → A → Bool} {cmp : A → A → Ordering} (o : IsTotalOrder cmp) (ties : (x y : A) → eq x y ≡ eq_by_cmp cmp x y)
    (x : A) (n p : ℕ) (s t : List A) (at : Placed eq cmp x (take n s) (Err p))
    (front : take (n + 1) t ≡ take p (take n s) ++ x ∷ drop p (take n s)) where
  pub put_in : take (n + 1) t ≡ insert_key cmp (take n s) x
  put_in = front ∙ sym at.2

  pub still_rising : IsStrictlySortedBy cmp (take n s) → IsStrictlySortedBy cmp (take (n + 1) t)
  still_rising h = subst (IsStrictlySortedBy cmp) (sym put_in) (rising_insert o ties x (take n s) h)

  pub one_more : (q : A) → is_member eq (take (n + 1) t) q ≡ (is_member eq (take n s) q || eq q x)
  one_more q = ap (λ (ys : List A). is_member eq ys q) put_in ∙ member_insert o ties x (take n s) q

  pub had_room : n < length s → Ok true ≡ cond (is_member eq (take n s) x) (Ok false) (admitted (drop n s))
  had_room lt =
      sym (at_drop_more admitted s n x lt)
      ∙ ap (λ (b : Bool). cond {A = Result Bool Full} b (Ok false) (admitted (drop n s))) (sym at.1)

module _ {A : Type 0} {o : _} (eq : A → A → Bool) (x : A) (l : OrderedList A o) where
  -- what is new is told
  pub told_new : (new : Bool) → Ok new ≡ answer eq x l → new ≡ not (is_member eq (members l) x)
  told_new new h = go (is_member eq (members l) x) (spare l) h
    where
      go : (b : Bool) (free : List A) → Ok new ≡ cond b (Ok false) (admitted free) → new ≡ not b
      go true free k = cc
      go false [] k = cc
      go false (y ∷ free) k = cc

  -- what is refused is new, and finds no place
  pub told_full : (f : Full) → Err f ≡ answer eq x l → (is_member eq (members l) x ≡ false) × (spare l ≡ [])
  told_full f h = go (is_member eq (members l) x) (spare l) h
    where
      go : (b : Bool) (free : List A) → Err f ≡ cond b (Ok false) (admitted free) → (b ≡ false) × (free ≡ [])
      go true free k = cc
      go false [] k = (refl, refl)
      go false (y ∷ free) k = cc
