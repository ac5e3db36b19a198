-- Pairs of 16 processes that rise are at most 120, and fewer where one is still to come.
use Rattle.std.proofs.Common.{◌≡◌, ℕ, zero, suc, ◌+◌, ◌-◌, ◌<◌, ◌≤◌, false, List, [], ◌∷◌, length, Ordering, Less, Equal, Greater, ap, inl, inr, arith}
use Rattle.ordered.proofs.Membership.{all_insert, rising_insert, insert_new}
use Rattle.tables.proofs.PairOrder.{pairs_total, pairs_tie}
use Rattle.std.proofs.lemmas.Bool.{cases_lt}
use Rattle.std.proofs.lemmas.List.Elements.{All-from_recursion, recursion_from_All, All-tail}
use Rattle.std.specs.BTreeSet.{insert_key}
use Rattle.std.specs.Cmp.{ranks}
use Rattle.std.specs.List.{All}
use Rattle.std.specs.List.Sorted.{IsStrictlySortedBy}
use Rattle.std.specs.Ordering.{MatchOrdering, nat_cmp, ordering_then}
use Rattle.std.specs.Set.{is_member}
use Rattle.tables.specs.Pairing.{Pair, pair_cmp, pair_eq, OfFew}

-- how many pairs have a first number below p
abbrev base : ℕ → ℕ
base zero = 0
base (suc p) = base p + (15 - p)

base_up : (p q : ℕ) → p ≤ q → base p ≤ base q
base_up p zero h = let e : p ≡ 0 = omega arith in rw e (omega arith)
base_up p (suc q) h =
    elim (cases_lt p (suc q)) [
      | inl l ↦ omega (arith, base_up p q (omega arith))
      | inr l ↦ let e : p ≡ suc q = omega arith in rw e (omega arith)
    ]

-- the place of a pair among all, counted from 1
abbrev rank : Pair → ℕ
rank x = base x.0 + (x.1 - x.0)

rank_top : (x : Pair) → OfFew x → rank x ≤ 120
rank_top x f = omega (arith, base_up (suc x.0) 16 (omega arith))

-- the lower first number decides, and then the lower second one
rank_rises : (x y : Pair) → OfFew x → OfFew y → pair_cmp x y ≡ Less → rank x < rank y
rank_rises x y f g = go (nat_cmp x.0 y.0) (ranks x.0 y.0) (nat_cmp x.1 y.1) (ranks x.1 y.1)
  where
    go : (o : Ordering) → MatchOrdering o (x.0 < y.0) (x.0 ≡ y.0) (y.0 < x.0)
        → (u : Ordering) → MatchOrdering u (x.1 < y.1) (x.1 ≡ y.1) (y.1 < x.1) → ordering_then o u ≡ Less → rank x < rank y
    go Less h u k e = omega (arith, base_up (suc x.0) y.0 (omega arith))
    go Equal h Less k e = omega (arith, ap base h)
    go Equal h Equal k e = cc
    go Equal h Greater k e = cc
    go Greater h u k e = cc

-- a rising list ends below the top
rising_top : (x : Pair) (xs : List Pair) → IsStrictlySortedBy pair_cmp (x ∷ xs) → All OfFew (x ∷ xs) → rank x + length xs ≤ 120
unfolding IsStrictlySortedBy
rising_top x [] r f = omega (arith, rank_top x (f 0 x (omega arith)))
rising_top x (y ∷ ys) r f =
    omega (arith, rank_rises x y (f 0 x (omega arith)) (f 1 y (omega arith)) r.0.0, rising_top y ys r.1 (All-tail OfFew x (y ∷ ys) f))

pub few_pairs : (xs : List Pair) → IsStrictlySortedBy pair_cmp xs → All OfFew xs → length xs ≤ 120
few_pairs [] r f = omega arith
few_pairs (x ∷ xs) r f = omega (arith, rising_top x xs r f, (f 0 x (omega arith)).0)

module _ (x : Pair) (f : OfFew x) (xs : List Pair) (g : All OfFew xs) where
  pub few_after : All OfFew (insert_key pair_cmp xs x)
  few_after = All-from_recursion OfFew _ (all_insert pair_cmp x OfFew f xs (recursion_from_All OfFew xs g))

  -- while a pair is new there is room for it
  pub room_left : IsStrictlySortedBy pair_cmp xs → is_member pair_eq xs x ≡ false → length xs < 120
  room_left r m =
      omega (arith, few_pairs (insert_key pair_cmp xs x) (rising_insert pairs_total pairs_tie x xs r) few_after, insert_new pairs_total pairs_tie x xs m)
