-- The pairs of independent events, one after another, and which they are.
use Rattle.std.proofs.Common.{◌≡◌, ℕ, zero, suc, ◌+◌, ◌-◌, ◌<◌, ◌≤◌, Bool, true, false, List, [], ◌∷◌, ◌++◌, filter, sym, refl, ap, ◌∙◌, subst, inl, inr, arith}
use Rattle.std.proofs.lemmas.List.Elements.{All-append, All-cons, All-contains, All-filter, All-nil, Contains-append_left, Contains-append_right, filter_passes, filter-append}
use Rattle.std.proofs.lemmas.List.{append_assoc, append-nil}
use Rattle.std.proofs.lemmas.Bool.{cases_eq, cond_both, cond-true, cond-false}
use Rattle.std.specs.List.{All, Contains}
use Rattle.independence.specs.Pairing.{event_limit, pairs_of, pairs_from, related, independent_pairs, Exactly}

pub limit_is : event_limit ≡ 64
unfolding event_limit
limit_is = refl

module _ (relation : ℕ → ℕ → Bool) (limit : ℕ) where
  -- a step of either loop, and its end
  of_next : (a b : ℕ) → b < limit → pairs_of a b (limit - b) ≡ (a, b) ∷ pairs_of a (b + 1) (limit - (b + 1))
  of_next a b h = let e : limit - b ≡ suc (limit - (b + 1)) = omega arith in ap (pairs_of a b) e

  pub of_taken : (items after : List (ℕ × ℕ)) (a b : ℕ) → b < limit → true ≡ relation a b → after ≡ items ++ (a, b) ∷ []
      → after ++ related relation (pairs_of a (b + 1) (limit - (b + 1))) ≡ items ++ related relation (pairs_of a b (limit - b))
  of_taken items after a b h t e =
      let rest = related relation (pairs_of a (b + 1) (limit - (b + 1))) in
      ap (λ xs. xs ++ rest) e ∙ append_assoc items ((a, b) ∷ []) rest
      ∙ ap (◌++◌ items) (sym (ap (related relation) (of_next a b h) ∙ cond-true (relation a b) _ _ (sym t)))

  pub of_left : (items after : List (ℕ × ℕ)) (a b : ℕ) → b < limit → false ≡ relation a b → after ≡ items
      → after ++ related relation (pairs_of a (b + 1) (limit - (b + 1))) ≡ items ++ related relation (pairs_of a b (limit - b))
  of_left items after a b h t e =
      ap (λ xs. xs ++ related relation (pairs_of a (b + 1) (limit - (b + 1)))) e
      ∙ ap (◌++◌ items) (sym (ap (related relation) (of_next a b h) ∙ cond-false (relation a b) _ _ (sym t)))

  pub of_all : (items : List (ℕ × ℕ)) (a b : ℕ) → limit ≤ b → items ++ related relation (pairs_of a b (limit - b)) ≡ items
  of_all items a b h =
      let e : limit - b ≡ 0 = omega arith in
      ap (λ n. items ++ related relation (pairs_of a b n)) e ∙ append-nil items

  pub from_more : (items after : List (ℕ × ℕ)) (a : ℕ) → a < limit
      → after ≡ items ++ related relation (pairs_of a (a + 1) (limit - (a + 1)))
      → after ++ related relation (pairs_from (a + 1) (limit - (a + 1))) ≡ items ++ related relation (pairs_from a (limit - a))
  from_more items after a h e =
      let k : limit - a ≡ suc (limit - (a + 1)) = omega arith in
      let here = pairs_of a (a + 1) (limit - (a + 1)) in
      let rest = pairs_from (a + 1) (limit - (a + 1)) in
      ap (λ xs. xs ++ related relation rest) e ∙ append_assoc items (related relation here) (related relation rest)
      ∙ ap (◌++◌ items)
      (sym (ap (λ n. related relation (pairs_from a n)) k ∙ filter-append (λ p. relation p.0 p.1) here rest))

  pub from_all : (items : List (ℕ × ℕ)) (a : ℕ) → limit ≤ a → items ++ related relation (pairs_from a (limit - a)) ≡ items
  from_all items a h =
      let e : limit - a ≡ 0 = omega arith in
      ap (λ n. items ++ related relation (pairs_from a n)) e ∙ append-nil items

-- what passes is kept
kept_has : {X : Type 0} (p : X → Bool) (xs : List X) (x : X) → Contains xs x → p x ≡ true → Contains (filter p xs) x
kept_has p [] x h t = absurd (omega (arith, h.1))
kept_has p (y ∷ xs) x (zero, lt, e) t =
    subst (λ ys. Contains ys x) (sym (cond-true (p y) _ _ (ap p e ∙ t))) (0, omega arith, e)
kept_has p (y ∷ xs) x (suc k, lt, e) t =
    let r = kept_has p xs x (k, omega (arith, lt), e) t in
    cond_both (p y) _ _ (λ ys. Contains ys x) (λ _. Contains-append_right (y ∷ []) (filter p xs) x r) (λ _. r)

of_has : (a b n m : ℕ) → b ≤ m → m < b + n → Contains (pairs_of a b n) (a, m)
of_has a b zero m h k = absurd (omega arith)
of_has a b (suc n) m h k =
    elim (cases_eq b m) [
      | inl e ↦ (0, omega arith, ap (λ i. (a, i)) e)
      | inr d ↦ Contains-append_right ((a, b) ∷ []) (pairs_of a (b + 1) n) (a, m) (of_has a (b + 1) n m (omega arith) (omega arith))
    ]

from_has : (i n a b : ℕ) → i ≤ a → a < b → b < i + n → Contains (pairs_from i n) (a, b)
from_has i zero a b h k l = absurd (omega arith)
from_has i (suc n) a b h k l =
    elim (cases_eq i a) [
      | inl e ↦
          Contains-append_left (pairs_of i (i + 1) n) (pairs_from (i + 1) n) (a, b)
          (subst (λ j. Contains (pairs_of i (i + 1) n) (j, b)) e (of_has i (i + 1) n b (omega arith) (omega arith)))
      | inr d ↦
          Contains-append_right (pairs_of i (i + 1) n) (pairs_from (i + 1) n) (a, b)
          (from_has (i + 1) n a b (omega arith) k (omega arith))
    ]

abbrev Rising : ℕ × ℕ → Type 0
Rising p = p.0 < p.1

of_rising : (a b n : ℕ) → a < b → All Rising (pairs_of a b n)
of_rising a b zero h = All-nil Rising
of_rising a b (suc n) h = All-cons Rising (a, b) (pairs_of a (b + 1) n) h (of_rising a (b + 1) n (omega arith))

from_rising : (i n : ℕ) → All Rising (pairs_from i n)
from_rising i zero = All-nil Rising
from_rising i (suc n) = All-append Rising (pairs_of i (i + 1) n) (pairs_from (i + 1) n) (of_rising i (i + 1) n (omega arith)) (from_rising (i + 1) n)

-- the list has just the pairs of independent events
pub pairs_exactly : (relation : ℕ → ℕ → Bool) → ((a b : ℕ) → relation a b ≡ relation b a) → ((a b : ℕ) → relation a b ≡ true → a < 64)
    → Exactly relation (independent_pairs relation)
pairs_exactly relation turned bounded a b = (
  λ h. (
    All-contains Rising (independent_pairs relation) (a, b)
        (All-filter (λ p. relation p.0 p.1) Rising (pairs_from 0 event_limit) (from_rising 0 event_limit)) h,
    All-contains (λ p. relation p.0 p.1 ≡ true) (independent_pairs relation) (a, b)
        (filter_passes (λ p. relation p.0 p.1) (pairs_from 0 event_limit)) h,
  ),
  λ h.
      let k = bounded b a (turned b a ∙ h.1) in
      kept_has (λ p. relation p.0 p.1) (pairs_from 0 event_limit) (a, b)
      (from_has 0 event_limit a b (omega arith) h.0 (omega (arith, limit_is))) h.1,
)
