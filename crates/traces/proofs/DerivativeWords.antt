-- Derivatives decide the closure: the words of the derivatives by a are the words of the expression with an a taken out.
use Rattle.std.proofs.Common.{◌≡◌, ℕ, Bool, true, false, cond, eqb, ◌↔◌, List, [], ◌∷◌, ◌++◌, map, sym, refl, ap, ◌∙◌, subst, inl, inr, append_assoc}
use mathlib.Core.Bool.{false≢true}
use Rattle.std.proofs.lemmas.Bool.{eqb-true, eq-eqb}
use Rattle.traces.specs.Members.{Member, Any}
use Rattle.traces.specs.Words.{Word, Rel}
use Rattle.traces.specs.Expressions.{Exp, event, one, zero, sum, cat, star, Rounds, done, more, Matches}
use Rattle.traces.specs.Normal.{is_zero, cat_of, star_of}
use Rattle.traces.specs.Derivatives.{keep, nonzero, derivatives}
use Rattle.traces.specs.Theorems.{DerivativesClosure}
use Rattle.traces.proofs.Lists.{member_map, member_unmap, any_left, any_right, any_either}
use Rattle.traces.proofs.Exchanging.{Removal, removal_split, removal_left, removal_right, removal_exchanges, exchanges_front, exchanges_cons, exchanges_trans}
use Rattle.traces.proofs.NormalWords.{cat_words, star_words, keep_words, rounds-append}

-- ── lists without Zero ──

pub nonzero_in : (E : Exp) (Es : List Exp) → is_zero E ≡ false → Member E Es → Member E (nonzero Es)
nonzero_in E [] z m = m
nonzero_in E (F ∷ Es) z m = go (is_zero F) refl m (nonzero_in E Es z)
  where
    go : (c : Bool) → is_zero F ≡ c → Member E (F ∷ Es) → (Member E Es → Member E (nonzero Es))
        → Member E (cond c (nonzero Es) (F ∷ nonzero Es))
    go true e (inl f) h = absurd (false≢true (sym z ∙ ap is_zero f ∙ e))
    go true e (inr k) h = h k
    go false e (inl f) h = inl f
    go false e (inr k) h = inr (h k)

pub nonzero_out : (E : Exp) (Es : List Exp) → Member E (nonzero Es) → Member E Es × (is_zero E ≡ false)
nonzero_out E [] m = absurd m
nonzero_out E (F ∷ Es) m = go (is_zero F) refl m (nonzero_out E Es)
  where
    go : (c : Bool) → is_zero F ≡ c → Member E (cond c (nonzero Es) (F ∷ nonzero Es))
        → (Member E (nonzero Es) → Member E Es × (is_zero E ≡ false)) → Member E (F ∷ Es) × (is_zero E ≡ false)
    go true e k h = (inr (h k).0, (h k).1)
    go false e (inl f) h = (inl f, ap is_zero f ∙ e)
    go false e (inr k) h = (inr (h k).0, (h k).1)

matched_nonzero : (E : Exp) (w : Word) → Matches E w → is_zero E ≡ false
matched_nonzero (event b) w i = refl
matched_nonzero one w i = refl
matched_nonzero zero w i = absurd i
matched_nonzero (sum E F) w i = refl
matched_nonzero (cat E F) w i = refl
matched_nonzero (star E) w i = refl

-- w is a word of some expression of the list
abbrev Means : List Exp → Word → Type 0
Means Es w = Any (λ E. Matches E w) Es

-- the list of all f E, for the members E, without Zero
module _ (f : Exp → Exp) (Es : List Exp) (w : Word) where
  means_in : (E : Exp) → Member E Es → Matches (f E) w → Means (nonzero (map f Es)) w
  means_in E m i = (f E, nonzero_in (f E) (map f Es) (matched_nonzero (f E) w i) (member_map f E Es m), i)

  means_out : Means (nonzero (map f Es)) w → (E : Exp) × Member E Es × Matches (f E) w
  means_out s =
      let r = member_unmap f s.0 Es (nonzero_out s.0 (map f Es) s.1).0 in
      (r.0, r.1, subst (λ G. Matches G w) r.2 s.2)

-- ── words of derivatives ──

-- a derivative of a Star, for the derivative E' of E and K that is kept of E
abbrev round : Exp → Exp → Exp → Exp
round K E E' = cat_of (star_of K) (cat_of E' (star_of E))

round_words : (K E E' : Exp) (w : Word) → Matches (round K E E') w ↔ Matches (cat (star K) (cat E' (star E))) w
round_words K E E' w = (
  λ r. let i = (cat_words (star_of K) (cat_of E' (star_of E)) w).0 r in
      let j = (cat_words E' (star_of E) i.1).0 i.4 in
      (i.0, i.1, i.2, (star_words K i.0).0 i.3, (j.0, j.1, j.2, j.3, (star_words E j.1).0 j.4)),
  λ i. let j = i.4 in
      (cat_words (star_of K) (cat_of E' (star_of E)) w).1 (
        i.0,
        i.1,
        i.2,
        (star_words K i.0).1 i.3,
        (cat_words E' (star_of E) i.1).1 (j.0, j.1, j.2, j.3, (star_words E j.1).1 j.4),
      ),
)

module _ (rel : Rel) (a : ℕ) where
  event_in : (b : ℕ) (w : Word) (c : Bool) → eqb b a ≡ c → b ≡ a → w ≡ [] → Means (cond c (one ∷ []) []) w
  event_in b w true e f g = (one, inl refl, g)
  event_in b w false e f g = absurd (false≢true (sym e ∙ eq-eqb b a f))

  event_out : (b : ℕ) (w : Word) (c : Bool) → eqb b a ≡ c → Means (cond c (one ∷ []) []) w
      → (u : Word) × Removal rel a u w × (u ≡ b ∷ [])
  event_out b w true e (E, inl f, i) = (b ∷ [], inl (eqb-true b a e, subst (λ G. Matches G w) f i), refl)
  event_out b w true e (E, inr m, i) = absurd m
  event_out b w false e s = absurd s.1

  -- the event is taken out of one round: the rounds before it are kept beside the event
  star_in : (E : Exp) → ((u w : Word) → Matches E u → Removal rel a u w → Means (derivatives rel a E) w)
      → (u w : Word) → Rounds (Matches E) u → Removal rel a u w
      → (E' : Exp) × Member E' (derivatives rel a E) × Matches (cat (star (keep rel a E)) (cat E' (star E))) w
  star_in E ih u w (done e) r = absurd (subst (λ t. Removal rel a t w) e r)
  star_in E ih u w (more x y e i s) r =
      elim (removal_split rel a x y w (subst (λ t. Removal rel a t w) e r)) [
        | inl k ↦ let d = ih x k.0 i k.2 in
            (d.0, d.1, ([], w, refl, done refl, (k.0, y, k.1, d.2, s)))
        | inr k ↦ let d = star_in E ih y k.0 s k.3 in
            let j = d.2 in (
              d.0,
              d.1,
              (
                x ++ j.0,
                j.1,
                k.1 ∙ ap (λ t. x ++ t) j.2 ∙ sym (append_assoc x j.0 j.1),
                more x j.0 refl ((keep_words rel a E x).1 (i, k.2)) j.3,
                j.4,
              ),
            )
      ]

  -- a word with the event taken out is a word of some derivative
  derivatives_in : (E : Exp) (u w : Word) → Matches E u → Removal rel a u w → Means (derivatives rel a E) w
  derivatives_in (event b) u w i r =
      elim (subst (λ t. Removal rel a t w) i r) [
        | inl e ↦ event_in b w (eqb b a) refl e.0 e.1
        | inr e ↦ absurd e.3
      ]
  derivatives_in one u w i r = absurd (subst (λ t. Removal rel a t w) i r)
  derivatives_in zero u w i r = absurd i
  derivatives_in (sum E F) u w (inl i) r =
      any_left (λ G. Matches G w) (derivatives rel a E) (derivatives rel a F) (derivatives_in E u w i r)
  derivatives_in (sum E F) u w (inr i) r =
      any_right (λ G. Matches G w) (derivatives rel a E) (derivatives rel a F) (derivatives_in F u w i r)
  derivatives_in (cat E F) u w i r =
      let f = λ (E' : Exp). cat_of E' F in
      let g = λ (F' : Exp). cat_of (keep rel a E) F' in
      let Es = nonzero (map f (derivatives rel a E)) in
      let Fs = nonzero (map g (derivatives rel a F)) in
      elim (removal_split rel a i.0 i.1 w (subst (λ t. Removal rel a t w) i.2 r)) [
        | inl k ↦ let d = derivatives_in E i.0 k.0 i.3 k.2 in
            any_left (λ G. Matches G w) Es Fs
            (means_in f (derivatives rel a E) w d.0 d.1 ((cat_words d.0 F w).1 (k.0, i.1, k.1, d.2, i.4)))
        | inr k ↦ let d = derivatives_in F i.1 k.0 i.4 k.3 in
            any_right (λ G. Matches G w) Es Fs
            (means_in g (derivatives rel a F) w d.0 d.1
            ((cat_words (keep rel a E) d.0 w).1 (i.0, k.0, k.1, (keep_words rel a E i.0).1 (i.3, k.2), d.2)))
      ]
  derivatives_in (star E) u w i r =
      let d = star_in E (derivatives_in E) u w i r in
      means_in (round (keep rel a E) E) (derivatives rel a E) w d.0 d.1 ((round_words (keep rel a E) E d.0 w).1 d.2)

  -- a word of a derivative is a word of the expression with the event taken out
  derivatives_out : (E : Exp) (w : Word) → Means (derivatives rel a E) w → (u : Word) × Removal rel a u w × Matches E u
  derivatives_out (event b) w s = event_out b w (eqb b a) refl s
  derivatives_out one w s = absurd s.1
  derivatives_out zero w s = absurd s.1
  derivatives_out (sum E F) w s =
      elim (any_either (λ G. Matches G w) (derivatives rel a E) (derivatives rel a F) s) [
        | inl t ↦ let r = derivatives_out E w t in (r.0, r.1, inl r.2)
        | inr t ↦ let r = derivatives_out F w t in (r.0, r.1, inr r.2)
      ]
  derivatives_out (cat E F) w s =
      let f = λ (E' : Exp). cat_of E' F in
      let g = λ (F' : Exp). cat_of (keep rel a E) F' in
      elim (any_either (λ G. Matches G w) (nonzero (map f (derivatives rel a E))) (nonzero (map g (derivatives rel a F))) s) [
        | inl t ↦ let d = means_out f (derivatives rel a E) w t in
            let i = (cat_words d.0 F w).0 d.2 in
            let r = derivatives_out E i.0 (d.0, d.1, i.3) in (
              r.0 ++ i.1,
              subst (λ t. Removal rel a (r.0 ++ i.1) t) (sym i.2) (removal_left rel a r.0 i.0 i.1 r.1),
              (r.0, i.1, refl, r.2, i.4),
            )
        | inr t ↦ let d = means_out g (derivatives rel a F) w t in
            let i = (cat_words (keep rel a E) d.0 w).0 d.2 in
            let k = (keep_words rel a E i.0).0 i.3 in
            let r = derivatives_out F i.1 (d.0, d.1, i.4) in (
              i.0 ++ r.0,
              subst (λ t. Removal rel a (i.0 ++ r.0) t) (sym i.2) (removal_right rel a i.0 r.0 i.1 k.1 r.1),
              (i.0, r.0, refl, k.0, r.2),
            )
      ]
  derivatives_out (star E) w s =
      let d = means_out (round (keep rel a E) E) (derivatives rel a E) w s in
      let i = (round_words (keep rel a E) E d.0 w).0 d.2 in
      let j = i.4 in
      let k = (keep_words rel a (star E) i.0).0 ((star_words (keep rel a E) i.0).1 i.3) in
      let r = derivatives_out E j.0 (d.0, d.1, j.3) in (
        i.0 ++ (r.0 ++ j.1),
        subst (λ t. Removal rel a (i.0 ++ (r.0 ++ j.1)) t) (sym (i.2 ∙ ap (λ t. i.0 ++ t) j.2))
            (removal_right rel a i.0 (r.0 ++ j.1) (j.0 ++ j.1) k.1 (removal_left rel a r.0 j.0 j.1 r.1)),
        rounds-append i.0 (r.0 ++ j.1) (i.0 ++ (r.0 ++ j.1)) refl k.0 (more r.0 j.1 refl r.2 j.4),
      )

pub derivatives_closure : DerivativesClosure
derivatives_closure rel E a w = (
  λ c. let f = exchanges_front rel a w c.0 c.1 in
      let d = derivatives_in rel a E c.0 f.0 c.2 f.1 in
      (d.0, d.1, (f.0, f.2, d.2)),
  λ s. let c = s.2 in
      let r = derivatives_out rel a E c.0 (s.0, s.1, c.2) in (
        r.0,
        exchanges_trans rel (a ∷ w) (a ∷ c.0) r.0
            (exchanges_cons rel a w c.0 c.1) (removal_exchanges rel a r.0 c.0 r.1),
        r.2,
      ),
)
