-- What adding a pair to a list with room for all leaves.
use Rattle.std.proofs.Common.{◌≡◌, ℕ, ◌<◌, Bool, false, ltb, List, [], length, take, drop, Ok, Err, Result, sym, ap, subst, inl, inr, arith}
use Rattle.std.proofs.lemmas.List.{length-drop, length-take}
use Rattle.std.proofs.lemmas.Bool.{cases_lt, cond_both, ltb-true, ltb-false}
use Rattle.std.specs.BTreeSet.{insert_key}
use Rattle.std.specs.List.{All}
use Rattle.std.specs.List.Sorted.{IsStrictlySortedBy}
use Rattle.std.specs.Prelude.{MatchResult}
use Rattle.std.specs.Set.{is_member}
use Rattle.tables.specs.Pairing.{Pair, pair_cmp, pair_eq, as_pair, OfFew}
use Rattle.tables.proofs.Ranking.{few_after, room_left}

-- two processes make a pair
pub pair_of : (n p q : ℕ) → p < n → q < n → (p ≡ q → ⊥) → ((as_pair p q).0 < (as_pair p q).1) × ((as_pair p q).1 < n)
pair_of n p q h k ne =
    cond_both (ltb p q) _ _ (λ (x : Pair). (x.0 < x.1) × (x.1 < n))
    (λ t. (ltb-true p q t, k))
    (λ t. (elim (cases_lt q p) [ inl l ↦ l | inr l ↦ absurd (ne (omega (arith, ltb-false p q t))) ], h))

module _ (p q : ℕ) (ne : p ≡ q → ⊥) (h : p < 16) (k : q < 16) (x : Pair) (is : x ≡ as_pair p q) where
  few_pair : OfFew x
  few_pair = subst OfFew (sym is) (pair_of 16 p q h k ne)

  -- the first len of the store are the pairs
  pub never_full : (len : ℕ) (store : List Pair) → All OfFew (take len store) → length store ≡ 120 → IsStrictlySortedBy pair_cmp (take len store)
      → is_member pair_eq (take len store) x ≡ false → drop len store ≡ [] → ⊥
  never_full len store few room w m s =
      omega (arith, room_left x few_pair (take len store) few w m, room, ap length s, length-take len store, length-drop len store)

  -- a refusal leaves the list
  pub still_few : {L T : Type 0} (members : L → List Pair) (l after : L) → All OfFew (members l) → (r : Result Bool T)
      → MatchResult r (λ _. members after ≡ insert_key pair_cmp (members l) x) (λ _. after ≡ l) → All OfFew (members after)
  still_few members l after few (Ok b) e = subst (All OfFew) (sym e) (few_after x few_pair (members l) few)
  still_few members l after few (Err f) e = subst (λ m. All OfFew (members m)) (sym e) few
