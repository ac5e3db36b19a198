-- An event that exchanges bring to the front of a word, and the rest of the word.
use Rattle.std.proofs.Common.{◌≡◌, ℕ, true, ◌⊎◌, [], ◌∷◌, ◌++◌, sym, refl, ap, ◌∙◌, subst, ap₂, inl, inr}
use mathlib.Core.Bool.{false≢true}
use Rattle.std.specs.List.{AllByRecursion}
use Rattle.traces.specs.Words.{Word, Rel, never, Independent}
use Rattle.traces.specs.Expressions.{Matches}
use Rattle.traces.specs.Exchanges.{Exchange, Exchanges, unchanged, exchanged}
use Rattle.traces.specs.Theorems.{ExchangesReverse, ClosureNever}
use Rattle.traces.proofs.Lists.{empty_right}

-- ── exchanges ──

pub exchanges_trans : (rel : Rel) (u v w : Word) → Exchanges rel u v → Exchanges rel v w → Exchanges rel u w
exchanges_trans rel u v w (unchanged e) y = subst (λ t. Exchanges rel t w) (sym e) y
exchanges_trans rel u v w (exchanged {v = t} x xs) y = exchanged x (exchanges_trans rel t v w xs y)

one_exchange : (rel : Rel) (u v : Word) → Exchange rel u v → Exchanges rel u v
one_exchange rel u v x = exchanged {v = v} x (unchanged refl)

pub exchanges_cons : (rel : Rel) (c : ℕ) (u v : Word) → Exchanges rel u v → Exchanges rel (c ∷ u) (c ∷ v)
exchanges_cons rel c u v (unchanged e) = unchanged (ap (λ t. c ∷ t) e)
exchanges_cons rel c u v (exchanged {v = t} x xs) =
    exchanged {v = c ∷ t}
    (c ∷ x.0, x.1, x.2, x.3, ap (λ s. c ∷ s) x.4, ap (λ s. c ∷ s) x.5, x.6)
    (exchanges_cons rel c t v xs)

pub exchanges_reverse : ExchangesReverse
exchanges_reverse rel h u v (unchanged e) = unchanged (sym e)
exchanges_reverse rel h u v (exchanged {v = t} x xs) =
    exchanges_trans rel v t u (exchanges_reverse rel h t v xs)
    (one_exchange rel t u (x.0, x.2, x.1, x.3, x.5, x.4, h x.1 x.2 x.6))

-- the empty word has no exchange
pub exchanges_empty : (rel : Rel) (u v : Word) → [] ≡ u → Exchanges rel u v → v ≡ []
exchanges_empty rel u v e (unchanged f) = sym (e ∙ f)
exchanges_empty rel u v e (exchanged x xs) =
    let f : x.1 ∷ x.2 ∷ x.3 ≡ [] = empty_right x.0 (x.1 ∷ x.2 ∷ x.3) (e ∙ x.4) in cc

no_exchange : (u v : Word) → Exchanges never u v → u ≡ v
no_exchange u v (unchanged e) = e
no_exchange u v (exchanged x xs) = absurd (false≢true x.6)

pub closure_never : ClosureNever
closure_never E w =
    (λ c. subst (λ u. Matches E u) (sym (no_exchange w c.0 c.1)) c.2, λ i. (w, unchanged refl, i))

-- what holds of every event of a word holds of every event before the exchanges
all_exchange : (P : ℕ → Type 0) (a b : ℕ) (p q : Word) → AllByRecursion P (p ++ (b ∷ a ∷ q)) → AllByRecursion P (p ++ (a ∷ b ∷ q))
all_exchange P a b [] q h = (h.1.0, (h.0, h.1.1))
all_exchange P a b (c ∷ p) q h = (h.0, all_exchange P a b p q h.1)

pub all_exchanges : (P : ℕ → Type 0) (rel : Rel) (u v : Word) → Exchanges rel u v → AllByRecursion P v → AllByRecursion P u
all_exchanges P rel u v (unchanged e) h = subst (λ t. AllByRecursion P t) (sym e) h
all_exchanges P rel u v (exchanged {v = t} x xs) h =
    subst (λ s. AllByRecursion P s) (sym x.4)
    (all_exchange P x.1 x.2 x.0 x.3 (subst (λ s. AllByRecursion P s) x.5 (all_exchanges P rel t v xs h)))

-- ── an event taken out ──

-- u is x ++ a ∷ y and w is x ++ y, where all of x is independent of a
abbrev pub Removal : Rel → ℕ → Word → Word → Type 0
Removal rel a [] w = ⊥
Removal rel a (b ∷ u) w = ((b ≡ a) × (w ≡ u)) ⊎ ((rel a b ≡ true) × (v : Word) × (w ≡ b ∷ v) × Removal rel a u v)

-- w turns by exchanges into what is left of v when a is taken out
abbrev pub Rest : Rel → ℕ → Word → Word → Type 0
Rest rel a v w = (w' : Word) × Removal rel a v w' × Exchanges rel w w'

module _ (rel : Rel) (a : ℕ) where
  -- the event stands in the left part or, past all of that, in the right part
  pub removal_split : (u v w : Word) → Removal rel a (u ++ v) w
      → ((u' : Word) × (w ≡ u' ++ v) × Removal rel a u u') ⊎ ((v' : Word) × (w ≡ u ++ v') × Independent rel a u × Removal rel a v v')
  removal_split [] v w r = inr (w, refl, tt, r)
  removal_split (b ∷ u) v w (inl e) = inl (u, e.1, inl (e.0, refl))
  removal_split (b ∷ u) v w (inr e) =
      elim (removal_split u v e.1 e.3) [
        | inl r ↦ inl (b ∷ r.0, e.2 ∙ ap (λ t. b ∷ t) r.1, inr (e.0, r.0, refl, r.2))
        | inr r ↦ inr (r.0, e.2 ∙ ap (λ t. b ∷ t) r.1, (e.0, r.2), r.3)
      ]

  pub removal_left : (u u' v : Word) → Removal rel a u u' → Removal rel a (u ++ v) (u' ++ v)
  removal_left [] u' v r = absurd r
  removal_left (b ∷ u) u' v (inl e) = inl (e.0, ap (λ t. t ++ v) e.1)
  removal_left (b ∷ u) u' v (inr e) = inr (e.0, e.1 ++ v, ap (λ t. t ++ v) e.2, removal_left u e.1 v e.3)

  pub removal_right : (u v v' : Word) → Independent rel a u → Removal rel a v v' → Removal rel a (u ++ v) (u ++ v')
  removal_right [] v v' h r = r
  removal_right (b ∷ u) v v' h r = inr (h.0, u ++ v', refl, removal_right u v v' h.1 r)

  -- from the front, exchanges bring the event back to where it was taken out
  pub removal_exchanges : (u w : Word) → Removal rel a u w → Exchanges rel (a ∷ w) u
  removal_exchanges [] w r = absurd r
  removal_exchanges (b ∷ u) w (inl e) = unchanged (ap₂ {C = Word} (λ s t. s ∷ t) (sym e.0) e.1)
  removal_exchanges (b ∷ u) w (inr e) =
      exchanged {v = b ∷ a ∷ e.1} ([], a, b, e.1, ap (λ t. a ∷ t) e.2, refl, e.0)
      (exchanges_cons rel b (a ∷ e.1) u (removal_exchanges u e.1 e.3))

  -- an exchange of x and y right behind p, all of which stands before the event
  at_exchange : (p q : Word) (x y : ℕ) (w v : Word) → rel x y ≡ true → w ≡ p ++ v → Independent rel a p
      → Removal rel a (x ∷ y ∷ q) v → Rest rel a (p ++ (y ∷ x ∷ q)) w
  at_exchange p q x y w v r e h (inl f) = (
    p ++ (y ∷ q),
    removal_right p (y ∷ x ∷ q) (y ∷ q) h (inr (subst (λ t. rel t y ≡ true) f.0 r, q, refl, inl (f.0, refl))),
    unchanged (e ∙ ap (λ t. p ++ t) f.1),
  )
  at_exchange p q x y w v r e h (inr f) = later f.3
    where
      later : Removal rel a (y ∷ q) f.1 → Rest rel a (p ++ (y ∷ x ∷ q)) w
      later (inl g) = (
        p ++ (x ∷ q),
        removal_right p (y ∷ x ∷ q) (x ∷ q) h (inl (g.0, refl)),
        unchanged (e ∙ ap (λ t. p ++ t) (f.2 ∙ ap (λ t. x ∷ t) g.1)),
      )
      later (inr g) = (
        p ++ (y ∷ x ∷ g.1),
        removal_right p (y ∷ x ∷ q) (y ∷ x ∷ g.1) h (inr (g.0, x ∷ g.1, refl, inr (f.0, g.1, refl, g.3))),
        one_exchange rel w (p ++ (y ∷ x ∷ g.1))
            (p, x, y, g.1, e ∙ ap (λ t. p ++ t) (f.2 ∙ ap (λ t. x ∷ t) g.2), refl, r),
      )

  -- what can be taken out of a word can be taken out after an exchange too
  removal_exchange : (u v w : Word) → Removal rel a u w → Exchange rel u v → Rest rel a v w
  removal_exchange u v w r x =
      let p = x.0 in
      let q = x.3 in
      subst (λ t. Rest rel a t w) (sym x.5)
      (elim (removal_split p (x.1 ∷ x.2 ∷ q) w (subst (λ t. Removal rel a t w) x.4 r)) [
        | inl s ↦ (
          s.0 ++ (x.2 ∷ x.1 ∷ q),
          removal_left p s.0 (x.2 ∷ x.1 ∷ q) s.2,
          one_exchange rel w (s.0 ++ (x.2 ∷ x.1 ∷ q)) (s.0, x.1, x.2, q, s.1, refl, x.6),
        )
        | inr s ↦ at_exchange p q x.1 x.2 w s.0 x.6 s.1 s.2 s.3
      ])

  removal_after : (u v w : Word) → Removal rel a u w → Exchanges rel u v → Rest rel a v w
  removal_after u v w r (unchanged e) = (w, subst (λ t. Removal rel a t w) e r, unchanged refl)
  removal_after u v w r (exchanged {v = t} x xs) =
      let f = removal_exchange u t w r x in
      let g = removal_after t v f.0 f.1 xs in
      (g.0, g.1, exchanges_trans rel w f.0 g.0 f.2 g.2)

  -- whatever exchanges make of a ∷ w, a can be taken out of it, and w turns into the rest
  pub exchanges_front : (w u : Word) → Exchanges rel (a ∷ w) u → Rest rel a u w
  exchanges_front w u x = removal_after (a ∷ w) u w (inl (refl, refl)) x
