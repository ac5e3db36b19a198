-- What exchanges make of the events of a row are the events of another order of its places.
use Rattle.std.proofs.Common.{◌≡◌, ℕ, true, ◌⊎◌, [], ◌∷◌, ◌++◌, map, sym, refl, ap, ◌∙◌, subst, inl, inr}
use mathlib.Core.List.{map-append, nil≢cons, head-eq_of_cons-eq, tail-eq_of_cons-eq}
use Rattle.traces.specs.Members.{Member}
use Rattle.traces.specs.Words.{Word, Rel}
use Rattle.traces.specs.Expressions.{Matches}
use Rattle.traces.specs.Exchanges.{Exchange, Exchanges, unchanged, exchanged}
use Rattle.traces.specs.Swaps.{Row, Before, Distinct, Reorders, TurnedIndependent, swaps, ClosureByOrders}
use Rattle.traces.proofs.Swapping.{swaps_reach_order, swaps_are_exchanges}

-- ── two neighbours swapped in a row ──

member_swap : (a x y : ℕ) (p q : Row) → Member a (p ++ (y ∷ x ∷ q)) → Member a (p ++ (x ∷ y ∷ q))
member_swap a x y [] q (inl e) = inr (inl e)
member_swap a x y [] q (inr (inl e)) = inl e
member_swap a x y [] q (inr (inr m)) = inr (inr m)
member_swap a x y (c ∷ p) q (inl e) = inl e
member_swap a x y (c ∷ p) q (inr m) = inr (member_swap a x y p q m)

before_swap : (b a x y : ℕ) (p q : Row) → Before b a (p ++ (y ∷ x ∷ q)) → Before b a (p ++ (x ∷ y ∷ q)) ⊎ ((b ≡ y) × (a ≡ x))
before_swap b a x y [] q (inl e) = elim e.1 [ inl f ↦ inr (e.0, f) | inr m ↦ inl (inr (inl (e.0, m))) ]
before_swap b a x y [] q (inr (inl e)) = inl (inl (e.0, inr e.1))
before_swap b a x y [] q (inr (inr m)) = inl (inr (inr m))
before_swap b a x y (c ∷ p) q (inl e) = inl (inl (e.0, member_swap a x y p q e.1))
before_swap b a x y (c ∷ p) q (inr m) = elim (before_swap b a x y p q m) [ inl k ↦ inl (inr k) | inr k ↦ inr k ]

distinct_swap : (x y : ℕ) (p q : Row) → Distinct (p ++ (x ∷ y ∷ q)) → Distinct (p ++ (y ∷ x ∷ q))
distinct_swap x y [] q d = (elim [ inl e ↦ d.0 (inl (sym e)) | inr m ↦ d.1.0 m ], (λ m. d.0 (inr m), d.1.1))
distinct_swap x y (c ∷ p) q d = (λ m. d.0 (member_swap c x y p q m), distinct_swap x y p q d.1)

-- ── of two distinct places only one stands before the other ──

after_member : (a b : ℕ) (row : Row) → Before a b row → Member b row
after_member a b [] m = m
after_member a b (z ∷ row) (inl e) = inr e.1
after_member a b (z ∷ row) (inr m) = inr (after_member a b row m)

one_way : (row : Row) → Distinct row → (a b : ℕ) → Before a b row → Before b a row → ⊥
one_way [] d a b m n = m
one_way (z ∷ row) d a b (inl e) (inl f) = d.0 (subst (λ t. Member t row) f.0 e.1)
one_way (z ∷ row) d a b (inl e) (inr n) = d.0 (subst (λ t. Member t row) e.0 (after_member b a row n))
one_way (z ∷ row) d a b (inr m) (inl f) = d.0 (subst (λ t. Member t row) f.0 (after_member a b row m))
one_way (z ∷ row) d a b (inr m) (inr n) = one_way row d.1 a b m n

-- ── exchanges followed by the row ──

-- the places of two neighbours in the word of a row
neighbours : (label : ℕ → ℕ) (a b : ℕ) (p q : Word) (row : Row) → map label row ≡ p ++ (a ∷ b ∷ q)
    → (l : Row) × (x : ℕ) × (y : ℕ) × (r : Row) × (row ≡ l ++ (x ∷ y ∷ r))
    × (map label l ≡ p) × (label x ≡ a) × (label y ≡ b) × (map label r ≡ q)
neighbours label a b [] q [] e = absurd (nil≢cons e)
neighbours label a b [] q (x ∷ []) e = absurd (nil≢cons (tail-eq_of_cons-eq e))
neighbours label a b [] q (x ∷ y ∷ r) e =
    let f = tail-eq_of_cons-eq e in
    ([], x, y, r, refl, refl, head-eq_of_cons-eq e, head-eq_of_cons-eq f, tail-eq_of_cons-eq f)
neighbours label a b (c ∷ p) q [] e = absurd (nil≢cons e)
neighbours label a b (c ∷ p) q (z ∷ row) e =
    let s = neighbours label a b p q row (tail-eq_of_cons-eq e) in (
      z ∷ s.0,
      s.1,
      s.2,
      s.3,
      ap (λ t. z ∷ t) s.4,
      (λ i. head-eq_of_cons-eq e i ∷ s.5 i),
      s.6,
      s.7,
      s.8,
    )

-- the word u belongs to an order of the row that turns independent places only
abbrev Ordered : Rel → (ℕ → ℕ) → Row → Word → Type 0
Ordered rel label row u =
    (order : Row) × Reorders row order × TurnedIndependent rel label row order × (map label order ≡ u)

ordered_exchange : (rel : Rel) (label : ℕ → ℕ) (row : Row) (u v : Word) → Exchange rel u v → Ordered rel label row u
    → Ordered rel label row v
ordered_exchange rel label row u v x r =
    let s = neighbours label x.1 x.2 x.0 x.3 r.0 (r.3 ∙ x.4) in
    let l = s.0 in
    let q = s.3 in
    let o = r.1 in (
      l ++ (s.2 ∷ s.1 ∷ q),
      (
        o.0,
        distinct_swap s.1 s.2 l q (subst Distinct s.4 o.1),
        λ z. (
          λ m. member_swap z s.2 s.1 l q (subst (λ t. Member z t) s.4 ((o.2 z).0 m)),
          λ m. (o.2 z).1 (subst (λ t. Member z t) (sym s.4) (member_swap z s.1 s.2 l q m)),
        ),
      ),
      λ a b m n.
          elim (before_swap b a s.1 s.2 l q n) [
            | inl k ↦ r.2 a b m (subst (λ t. Before b a t) (sym s.4) k)
            | inr k ↦ subst (λ c. c ≡ true)
                (λ i. rel (sym (ap label k.1 ∙ s.6) i) (sym (ap label k.0 ∙ s.7) i)) x.6
          ],
      map-append label l (s.2 ∷ s.1 ∷ q) ∙ (λ i. s.5 i ++ (s.7 i ∷ s.6 i ∷ s.8 i)) ∙ sym x.5,
    )

ordered_exchanges : (rel : Rel) (label : ℕ → ℕ) (row : Row) (u v : Word) → Exchanges rel u v → Ordered rel label row u
    → Ordered rel label row v
ordered_exchanges rel label row u v (unchanged e) r = (r.0, r.1, r.2, r.3 ∙ e)
ordered_exchanges rel label row u v (exchanged {v = t} x xs) r =
    ordered_exchanges rel label row t v xs (ordered_exchange rel label row u t x r)

pub closure_by_orders : ClosureByOrders
closure_by_orders rel label E row d = (
  λ c. let r = ordered_exchanges rel label row (map label row) c.0 c.1
      (row, (d, d, λ x. (λ m. m, λ m. m)), (λ a b m n. absurd (one_way row d a b m n)), refl) in
      (r.0, r.1, r.2, subst (λ t. Matches E t) (sym r.3) c.2),
  λ o. (
    map label o.0,
    swaps_are_exchanges rel label row o.0 (swaps row o.0) (swaps_reach_order rel label row o.0 o.1 o.2),
    o.3,
  ),
)
