-- A row comes into an order by swaps of neighbours with independent events, and such swaps are exchanges.
use Rattle.std.proofs.Common.{◌≡◌, ℕ, suc, Bool, true, false, cond, eqb, ◌≢◌, List, [], ◌∷◌, ◌++◌, map, sym, refl, ap, ◌∙◌, subst, inl, inr}
use mathlib.Core.List.{map-append}
use Rattle.std.proofs.lemmas.Bool.{eqb-true, eqb-false}
use Rattle.traces.specs.Members.{Member}
use Rattle.traces.specs.Words.{Rel}
use Rattle.traces.specs.Exchanges.{unchanged, exchanged}
use Rattle.traces.specs.Swaps.{Row, Before, Distinct, Reorders, remove, to_front, swaps, SwapsTo, SwapsReachOrder, SwapsAreExchanges}
use Rattle.traces.proofs.Lists.{no_members}

-- the test of two places, with what its answer says
pub tested : (x z : ℕ) (P : Bool → Type 0) → (x ≡ z → P true) → (x ≢ z → P false) → P (eqb x z)
tested x z P f g = go (eqb x z) refl
  where
    go : (c : Bool) → eqb x z ≡ c → P c
    go true e = f (eqb-true x z e)
    go false e = g (eqb-false x z e)

-- ── swaps ──

module _ (rel : Rel) (label : ℕ → ℕ) where
  swaps_cons : (c : ℕ) (row end : Row) (is : List ℕ) → SwapsTo rel label row is end
      → SwapsTo rel label (c ∷ row) (map (λ i. suc i) is) (c ∷ end)
  swaps_cons c row end [] s = ap (λ t. c ∷ t) s
  swaps_cons c row end (i ∷ is) s = (
    c ∷ s.0,
    s.1,
    s.2,
    s.3,
    ap (λ n. suc n) s.4,
    ap (λ t. c ∷ t) s.5,
    s.6,
    swaps_cons c (s.0 ++ (s.2 ∷ s.1 ∷ s.3)) end is s.7,
  )

  swaps-append : (row mid end : Row) (is js : List ℕ) → SwapsTo rel label row is mid → SwapsTo rel label mid js end
      → SwapsTo rel label row (is ++ js) end
  swaps-append row mid end [] js s t = subst (λ r. SwapsTo rel label r js end) (sym s) t
  swaps-append row mid end (i ∷ is) js s t =
      (s.0, s.1, s.2, s.3, s.4, s.5, s.6, swaps-append (s.0 ++ (s.2 ∷ s.1 ∷ s.3)) mid end is js s.7 t)

  -- a place comes to the front past independent ones
  front_swaps : (x : ℕ) (row : Row) → Member x row → ((z : ℕ) → z ≢ x → Before z x row → rel (label z) (label x) ≡ true)
      → SwapsTo rel label row (to_front x row) (x ∷ remove x row)
  front_swaps x [] m h = absurd m
  front_swaps x (z ∷ row) m h =
      tested x z
      (λ c. SwapsTo rel label (z ∷ row) (cond c [] (map (λ i. suc i) (to_front x row) ++ (0 ∷ []))) (x ∷ cond c row (z ∷ remove x row)))
      (λ e. ap (λ t. t ∷ row) (sym e))
      (λ n. let k : Member x row = elim m [ inl e ↦ absurd (n e) | inr k ↦ k ] in
      swaps-append (z ∷ row) (z ∷ x ∷ remove x row) (x ∷ z ∷ remove x row) (map (λ i. suc i) (to_front x row)) (0 ∷ [])
      (swaps_cons z row (x ∷ remove x row) (to_front x row) (front_swaps x row k (λ y g b. h y g (inr b))))
      ([], z, x, remove x row, refl, refl, h z (λ e. n (sym e)) (inl (refl, k)), refl))

-- ── a place removed ──

pub member_remove : (x y : ℕ) (row : Row) → Member y (remove x row) → Member y row
member_remove x y [] = λ m. m
member_remove x y (z ∷ row) =
    tested x z (λ c. Member y (cond c row (z ∷ remove x row)) → Member y (z ∷ row)) (λ e m. inr m)
    (λ n. elim [ inl e ↦ inl e | inr m ↦ inr (member_remove x y row m) ])

member_kept : (x y : ℕ) (row : Row) → y ≢ x → Member y row → Member y (remove x row)
member_kept x y [] n m = m
member_kept x y (z ∷ row) n m =
    tested x z (λ c. Member y (cond c row (z ∷ remove x row)))
    (λ e. elim m [ inl f ↦ absurd (n (f ∙ sym e)) | inr k ↦ k ])
    (λ d. elim m [ inl f ↦ inl f | inr k ↦ inr (member_kept x y row n k) ])

before_remove : (x a b : ℕ) (row : Row) → Before a b (remove x row) → Before a b row
before_remove x a b [] = λ m. m
before_remove x a b (z ∷ row) =
    tested x z (λ c. Before a b (cond c row (z ∷ remove x row)) → Before a b (z ∷ row)) (λ e m. inr m)
    (λ n. elim [ inl e ↦ inl (e.0, member_remove x b row e.1) | inr m ↦ inr (before_remove x a b row m) ])

distinct_remove : (x : ℕ) (row : Row) → Distinct row → Distinct (remove x row)
distinct_remove x [] d = tt
distinct_remove x (z ∷ row) d =
    tested x z (λ c. Distinct (cond c row (z ∷ remove x row))) (λ e. d.1)
    (λ n. (λ m. d.0 (member_remove x z row m), distinct_remove x row d.1))

removed_gone : (x : ℕ) (row : Row) → Distinct row → Member x (remove x row) → ⊥
removed_gone x [] d = λ m. m
removed_gone x (z ∷ row) d =
    tested x z (λ c. Member x (cond c row (z ∷ remove x row)) → ⊥) (λ e m. d.0 (subst (λ t. Member t row) e m))
    (λ n. elim [ inl e ↦ n e | inr m ↦ removed_gone x row d.1 m ])

before_member : (a b : ℕ) (row : Row) → Before a b row → Member a row
before_member a b [] m = m
before_member a b (z ∷ row) (inl e) = inl e.0
before_member a b (z ∷ row) (inr m) = inr (before_member a b row m)

member_rest : (order : Row) (x y : ℕ) → y ≢ x → Member y (x ∷ order) → Member y order
member_rest order x y n (inl e) = absurd (n e)
member_rest order x y n (inr m) = m

pub reorders_rest : (row order : Row) (x : ℕ) → Reorders row (x ∷ order) → Reorders (remove x row) order
reorders_rest row order x r = (
  distinct_remove x row r.0,
  r.1.1,
  λ y. (
    λ m. member_rest order x y (λ e. removed_gone x row r.0 (subst (λ t. Member t (remove x row)) e m))
        ((r.2 y).0 (member_remove x y row m)),
    λ m. member_kept x y row (λ e. r.1.0 (subst (λ t. Member t order) e m)) ((r.2 y).1 (inr m)),
  ),
)

-- ── the theorems ──

pub swaps_reach_order : SwapsReachOrder
swaps_reach_order rel label row [] r h = no_members row (λ x m. (r.2 x).0 m)
swaps_reach_order rel label row (x ∷ order) r h =
    swaps-append rel label row (x ∷ remove x row) (x ∷ order) (to_front x row) (map (λ i. suc i) (swaps (remove x row) order))
    (front_swaps rel label x row ((r.2 x).1 (inl refl))
    (λ z n b. h z x b (inl (refl, member_rest order x z n ((r.2 z).0 (before_member z x row b))))))
    (swaps_cons rel label x (remove x row) order (swaps (remove x row) order)
    (swaps_reach_order rel label (remove x row) order (reorders_rest row order x r)
    (λ a b p q. h a b (before_remove x a b row p) (inr q))))

pub swaps_are_exchanges : SwapsAreExchanges
swaps_are_exchanges rel label row end [] s = unchanged (ap (λ t. map label t) s)
swaps_are_exchanges rel label row end (i ∷ is) s =
    let p = s.0 in
    let q = s.3 in
    exchanged {v = map label (p ++ (s.2 ∷ s.1 ∷ q))} (
      map label p,
      label s.1,
      label s.2,
      map label q,
      ap (λ t. map label t) s.5 ∙ map-append label p (s.1 ∷ s.2 ∷ q),
      map-append label p (s.2 ∷ s.1 ∷ q),
      s.6,
    )
    (swaps_are_exchanges rel label (p ++ (s.2 ∷ s.1 ∷ q)) end is s.7)
