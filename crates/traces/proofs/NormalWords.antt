-- The normalising constructors change no word, and what is left of a restricted expression are the words that pass the test.
use Rattle.std.proofs.Common.{◌≡◌, ℕ, Bool, true, false, cond, ◌↔◌, [], ◌∷◌, ◌++◌, sym, refl, ap, ◌∙◌, subst, inl, inr, append_assoc, append-nil}
use mathlib.Core.Bool.{false≢true}
use mathlib.Core.Logic.Iff
use Rattle.std.specs.List.{AllByRecursion}
use Rattle.std.proofs.ByRecursion.{All-append}
use Rattle.std.proofs.lemmas.Bool.{and_parts, and_from, or_cases, eqb-true, eq-eqb}
use Rattle.traces.specs.Words.{Word}
use Rattle.traces.specs.Expressions.{Exp, event, one, zero, sum, cat, star, Rounds, done, more, Matches}
use Rattle.traces.specs.Normal.{is_zero, is_one, equal, is_summand, joined, cat_of, added, sum_of, star_of, restrict, normal}
use Rattle.traces.specs.Theorems.{EqualDecides, NormalWords, KeepWords}
use Rattle.traces.proofs.Lists.{all_left, all_right}

-- ── the tests ──

pub zero_is : (E : Exp) → is_zero E ≡ true → E ≡ zero
zero_is (event b) e = absurd (false≢true e)
zero_is one e = absurd (false≢true e)
zero_is zero e = refl
zero_is (sum E F) e = absurd (false≢true e)
zero_is (cat E F) e = absurd (false≢true e)
zero_is (star E) e = absurd (false≢true e)

pub one_is : (E : Exp) → is_one E ≡ true → E ≡ one
one_is (event b) e = absurd (false≢true e)
one_is one e = refl
one_is zero e = absurd (false≢true e)
one_is (sum E F) e = absurd (false≢true e)
one_is (cat E F) e = absurd (false≢true e)
one_is (star E) e = absurd (false≢true e)

equal_is : (E F : Exp) → equal E F ≡ true → E ≡ F
equal_is (event b) (event c) e = ap (λ t. event t) (eqb-true b c e)
equal_is (event b) one e = absurd (false≢true e)
equal_is (event b) zero e = absurd (false≢true e)
equal_is (event b) (sum C D) e = absurd (false≢true e)
equal_is (event b) (cat C D) e = absurd (false≢true e)
equal_is (event b) (star C) e = absurd (false≢true e)
equal_is one F e = sym (one_is F e)
equal_is zero F e = sym (zero_is F e)
equal_is (sum A B) (event c) e = absurd (false≢true e)
equal_is (sum A B) one e = absurd (false≢true e)
equal_is (sum A B) zero e = absurd (false≢true e)
equal_is (sum A B) (sum C D) e =
    let h = and_parts (equal A C) (equal B D) e in λ i. sum (equal_is A C h.0 i) (equal_is B D h.1 i)
equal_is (sum A B) (cat C D) e = absurd (false≢true e)
equal_is (sum A B) (star C) e = absurd (false≢true e)
equal_is (cat A B) (event c) e = absurd (false≢true e)
equal_is (cat A B) one e = absurd (false≢true e)
equal_is (cat A B) zero e = absurd (false≢true e)
equal_is (cat A B) (sum C D) e = absurd (false≢true e)
equal_is (cat A B) (cat C D) e =
    let h = and_parts (equal A C) (equal B D) e in λ i. cat (equal_is A C h.0 i) (equal_is B D h.1 i)
equal_is (cat A B) (star C) e = absurd (false≢true e)
equal_is (star A) (event c) e = absurd (false≢true e)
equal_is (star A) one e = absurd (false≢true e)
equal_is (star A) zero e = absurd (false≢true e)
equal_is (star A) (sum C D) e = absurd (false≢true e)
equal_is (star A) (cat C D) e = absurd (false≢true e)
equal_is (star A) (star C) e = ap (λ t. star t) (equal_is A C e)

equal_self : (E : Exp) → equal E E ≡ true
equal_self (event b) = eq-eqb b b refl
equal_self one = refl
equal_self zero = refl
equal_self (sum A B) = and_from (equal A A) (equal B B) (equal_self A) (equal_self B)
equal_self (cat A B) = and_from (equal A A) (equal B B) (equal_self A) (equal_self B)
equal_self (star A) = equal_self A

pub equal_decides : EqualDecides
equal_decides E F = (equal_is E F, λ e. subst (λ G. equal E G ≡ true) e (equal_self E))

-- ── Cat ──

-- two Cats are grouped from the left or from the right
cat_assoc : (A B C : Exp) (w : Word) → Matches (cat A (cat B C)) w ↔ Matches (cat (cat A B) C) w
cat_assoc A B C w = (
  λ i. let j = i.4 in (
    i.0 ++ j.0,
    j.1,
    i.2 ∙ ap (λ t. i.0 ++ t) j.2 ∙ sym (append_assoc i.0 j.0 j.1),
    (i.0, j.0, refl, i.3, j.3),
    j.4,
  ),
  λ i. let j = i.3 in (
    j.0,
    j.1 ++ i.1,
    i.2 ∙ ap (λ t. t ++ i.1) j.2 ∙ append_assoc j.0 j.1 i.1,
    j.3,
    (j.1, i.1, refl, j.4, i.4),
  ),
)

joined_words : (E F G : Exp) (w : Word) → Matches G w ↔ Matches (cat E F) w → Matches (joined E F G) w ↔ Matches (cat E F) w
joined_words E F G w h = go (is_zero F) (is_one F) refl refl
  where
    go : (c d : Bool) → is_zero F ≡ c → is_one F ≡ d → Matches (cond c zero (cond d E G)) w ↔ Matches (cat E F) w
    go true d e f = (λ i. absurd i, λ i. subst (λ H. Matches H i.1) (zero_is F e) i.4)
    go false true e f = (
      λ i. (w, [], sym (append-nil w), i, subst (λ H. Matches H []) (sym (one_is F f)) refl),
      λ i. subst (λ t. Matches E t)
          (sym (i.2 ∙ ap (λ t. i.0 ++ t) (subst (λ H. Matches H i.1) (one_is F f) i.4) ∙ append-nil i.0)) i.3,
    )
    go false false e f = h

pub cat_words : (E F : Exp) (w : Word) → Matches (cat_of E F) w ↔ Matches (cat E F) w
cat_words (event b) F w = joined_words (event b) F (cat (event b) F) w Iff.rfl
cat_words one F w =
    (λ i. ([], w, refl, refl, i), λ i. subst (λ t. Matches F t) (sym (i.2 ∙ ap (λ t. t ++ i.1) i.3)) i.4)
cat_words zero F w = (λ i. absurd i, λ i. i.3)
cat_words (sum A B) F w = joined_words (sum A B) F (cat (sum A B) F) w Iff.rfl
cat_words (cat A B) F w =
    joined_words (cat A B) F (cat_of A (cat_of B F)) w (
      λ i. let j = (cat_words A (cat_of B F) w).0 i in
          (cat_assoc A B F w).0 (j.0, j.1, j.2, j.3, (cat_words B F j.1).0 j.4),
      λ i. let j = (cat_assoc A B F w).1 i in
          (cat_words A (cat_of B F) w).1 (j.0, j.1, j.2, j.3, (cat_words B F j.1).1 j.4),
    )
cat_words (star A) F w = joined_words (star A) F (cat (star A) F) w Iff.rfl

-- ── Sum ──

summand_words : (E F : Exp) (w : Word) → is_summand E F ≡ true → Matches E w → Matches F w
summand_words E (event b) w e i = subst (λ G. Matches G w) (equal_is E (event b) e) i
summand_words E one w e i = subst (λ G. Matches G w) (equal_is E one e) i
summand_words E zero w e i = subst (λ G. Matches G w) (equal_is E zero e) i
summand_words E (sum A B) w e i =
    elim (or_cases (equal E A) (is_summand E B) e) [
      | inl f ↦ inl (subst (λ G. Matches G w) (equal_is E A f) i)
      | inr f ↦ inr (summand_words E B w f i)
    ]
summand_words E (cat A B) w e i = subst (λ G. Matches G w) (equal_is E (cat A B) e) i
summand_words E (star A) w e i = subst (λ G. Matches G w) (equal_is E (star A) e) i

-- a Sum with Zero
sum_zero_words : (E F : Exp) (w : Word) → is_zero F ≡ true → Matches E w ↔ Matches (sum E F) w
sum_zero_words E F w e = (λ i. inl i, elim [ inl i ↦ i | inr i ↦ absurd (subst (λ H. Matches H w) (zero_is F e) i) ])

added_words : (E F : Exp) (w : Word) → Matches (added E F) w ↔ Matches (sum E F) w
added_words E F w = go (is_zero F) (is_summand E F) refl refl
  where
    go : (c d : Bool) → is_zero F ≡ c → is_summand E F ≡ d → Matches (cond c E (cond d F (sum E F))) w ↔ Matches (sum E F) w
    go true d e f = sum_zero_words E F w e
    go false true e f = (λ i. inr i, elim [ inl i ↦ summand_words E F w f i | inr i ↦ i ])
    go false false e f = Iff.rfl

pub sum_words : (E F : Exp) (w : Word) → Matches (sum_of E F) w ↔ Matches (sum E F) w
sum_words (event b) F w = added_words (event b) F w
sum_words one F w = added_words one F w
sum_words zero F w = (λ i. inr i, elim [ inl i ↦ absurd i | inr i ↦ i ])
sum_words (sum A B) F w = go (is_zero F) refl (sum_words A (sum_of B F) w) (sum_words B F w)
  where
    go : (c : Bool) → is_zero F ≡ c → Matches (sum_of A (sum_of B F)) w ↔ Matches (sum A (sum_of B F)) w
        → Matches (sum_of B F) w ↔ Matches (sum B F) w
        → Matches (cond c (sum A B) (sum_of A (sum_of B F))) w ↔ Matches (sum (sum A B) F) w
    go true e h k = sum_zero_words (sum A B) F w e
    go false e h k = (
      λ i. elim (h.0 i) [
        | inl j ↦ inl (inl j)
        | inr j ↦ elim (k.0 j) [ inl l ↦ inl (inr l) | inr l ↦ inr l ]
      ],
      elim [
        | inl (inl i) ↦ h.1 (inl i)
        | inl (inr i) ↦ h.1 (inr (k.1 (inl i)))
        | inr i ↦ h.1 (inr (k.1 (inr i)))
      ],
    )
sum_words (cat A B) F w = added_words (cat A B) F w
sum_words (star A) F w = added_words (star A) F w

-- ── Star ──

pub rounds-append : {P : Word → Type 0} (u v w : Word) → w ≡ u ++ v → Rounds P u → Rounds P v → Rounds P w
rounds-append {P} u v w e (done f) r = subst (λ t. Rounds P t) (sym (e ∙ ap (λ t. t ++ v) f)) r
rounds-append u v w e (more x y f p s) r =
    more x (y ++ v) (e ∙ ap (λ t. t ++ v) f ∙ append_assoc x y v) p (rounds-append y v (y ++ v) refl s r)

zero_rounds : (w : Word) → Rounds (Matches zero) w → w ≡ []
zero_rounds w (done e) = e
zero_rounds w (more u v e i r) = absurd i

one_rounds : (w : Word) → Rounds (Matches one) w → w ≡ []
one_rounds w (done e) = e
one_rounds w (more u v e i r) = e ∙ ap (λ t. t ++ v) i ∙ one_rounds v r

star_rounds : {P : Word → Type 0} (w : Word) → Rounds (Rounds P) w → Rounds P w
star_rounds w (done e) = done e
star_rounds w (more u v e i r) = rounds-append u v w e i (star_rounds v r)

pub star_words : (E : Exp) (w : Word) → Matches (star_of E) w ↔ Matches (star E) w
star_words (event b) w = Iff.rfl
star_words one w = (λ e. done e, one_rounds w)
star_words zero w = (λ e. done e, zero_rounds w)
star_words (sum A B) w = Iff.rfl
star_words (cat A B) w = Iff.rfl
star_words (star A) w = (λ r. more w [] (sym (append-nil w)) r (done refl), star_rounds w)

-- ── restricted expressions ──

module _ (p : ℕ → Bool) where
  -- every event of the word passes the test
  abbrev Passes : Word → Type 0
  Passes w = AllByRecursion (λ b. p b ≡ true) w

  event_restricted : (b : ℕ) (w : Word) (c : Bool) → p b ≡ c → Matches (cond c (event b) zero) w ↔ ((w ≡ b ∷ []) × Passes w)
  event_restricted b w true e = (λ i. (i, subst Passes (sym i) (e, tt)), λ h. h.0)
  event_restricted b w false e = (λ i. absurd i, λ h. absurd (false≢true (sym e ∙ (subst Passes h.0 h.1).0)))

  rounds_restricted : {P Q : Word → Type 0} → ((u : Word) → P u ↔ (Q u × Passes u)) → (w : Word) → Rounds P w ↔ (Rounds Q w × Passes w)
  rounds_restricted {P} {Q} f w = (out w, λ h. back w h.0 h.1)
    where
      out : (w : Word) → Rounds P w → Rounds Q w × Passes w
      out w (done e) = (done e, subst Passes (sym e) tt)
      out w (more u v e i r) =
          let j = (f u).0 i in
          let k = out v r in
          (more u v e j.0 k.0, subst Passes (sym e) (All-append (λ b. p b ≡ true) u v j.1 k.1))

      back : (w : Word) → Rounds Q w → Passes w → Rounds P w
      back w (done e) h = done e
      back w (more u v e i r) h =
          let k = subst Passes e h in
          more u v e ((f u).1 (i, all_left (λ b. p b ≡ true) u v k)) (back v r (all_right (λ b. p b ≡ true) u v k))

  pub restrict_words : (E : Exp) (w : Word) → Matches (restrict p E) w ↔ (Matches E w × Passes w)
  restrict_words (event b) w = event_restricted b w (p b) refl
  restrict_words one w = (λ i. (i, subst Passes (sym i) tt), λ h. h.0)
  restrict_words zero w = (λ i. absurd i, λ h. h.0)
  restrict_words (sum E F) w =
      let h = sum_words (restrict p E) (restrict p F) w in (
        λ i. elim (h.0 i) [
          | inl j ↦ let k = (restrict_words E w).0 j in (inl k.0, k.1)
          | inr j ↦ let k = (restrict_words F w).0 j in (inr k.0, k.1)
        ],
        λ k. elim k.0 [
          | inl j ↦ h.1 (inl ((restrict_words E w).1 (j, k.1)))
          | inr j ↦ h.1 (inr ((restrict_words F w).1 (j, k.1)))
        ],
      )
  restrict_words (cat E F) w =
      let h = cat_words (restrict p E) (restrict p F) w in (
        λ i. let j = h.0 i in
            let k = (restrict_words E j.0).0 j.3 in
            let l = (restrict_words F j.1).0 j.4 in (
              (j.0, j.1, j.2, k.0, l.0),
              subst Passes (sym j.2) (All-append (λ b. p b ≡ true) j.0 j.1 k.1 l.1),
            ),
        λ k. let j = k.0 in
            let l = subst Passes j.2 k.1 in
            h.1 (
              j.0,
              j.1,
              j.2,
              (restrict_words E j.0).1 (j.3, all_left (λ b. p b ≡ true) j.0 j.1 l),
              (restrict_words F j.1).1 (j.4, all_right (λ b. p b ≡ true) j.0 j.1 l),
            ),
      )
  restrict_words (star E) w =
      let h = star_words (restrict p E) w in
      let k = rounds_restricted (restrict_words E) w in
      (λ i. k.0 (h.0 i), λ i. h.1 (k.1 i))

pub keep_words : KeepWords
keep_words rel a E w = restrict_words (rel a) E w

always : (w : Word) → AllByRecursion (λ b. true ≡ true) w
always [] = tt
always (b ∷ w) = (refl, always w)

normal_same : (E : Exp) (w : Word) → Matches (normal E) w ↔ Matches E w
normal_same E w =
    let h = restrict_words (λ _. true) E w in
    (λ i. (h.0 i).0, λ i. h.1 (i, always w))

pub normal_words : NormalWords
normal_words = (cat_words, sum_words, star_words, normal_same)
