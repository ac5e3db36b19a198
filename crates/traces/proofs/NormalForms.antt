-- What normalised expressions look like: the constructors build just these, and none but Zero itself holds a Zero.
use Rattle.std.proofs.Common.{◌≡◌, ℕ, Bool, true, false, cond, ◌⊎◌, [], ◌∷◌, ◌++◌, sym, refl, ◌∙◌, subst, inl, inr, true≢false}
use Rattle.traces.specs.Words.{Word}
use Rattle.traces.specs.Expressions.{Exp, event, one, zero, sum, cat, star, done, Matches, NoZero}
use Rattle.traces.specs.Normal.{is_zero, is_one, is_summand, joined, cat_of, added, sum_of, star_of, restrict, normal, Normal}
use Rattle.traces.specs.Theorems.{NormalBuilt, NormalPlain, NormalHasWord}
use Rattle.traces.proofs.NormalWords.{zero_is}

-- ── the shape of a normalised expression ──

abbrev is_sum : Exp → Bool
is_sum (event b) = false
is_sum one = false
is_sum zero = false
is_sum (sum E F) = true
is_sum (cat E F) = false
is_sum (star E) = false

abbrev is_cat : Exp → Bool
is_cat (event b) = false
is_cat one = false
is_cat zero = false
is_cat (sum E F) = false
is_cat (cat E F) = true
is_cat (star E) = false

abbrev is_star : Exp → Bool
is_star (event b) = false
is_star one = false
is_star zero = false
is_star (sum E F) = false
is_star (cat E F) = false
is_star (star E) = true

-- the expression is neither Zero nor One
abbrev Solid : Exp → Type 0
Solid E = (is_zero E ≡ false) × (is_one E ≡ false)

-- Sums and Cats are grouped from the right, no summand stands twice, and neither Zero nor One stands where it could be left out
abbrev pub Shape : Exp → Type 0
Shape (event b) = Unit {0}
Shape one = Unit {0}
Shape zero = Unit {0}
Shape (sum E F) =
    Shape E × Shape F × (is_zero E ≡ false) × (is_sum E ≡ false) × (is_zero F ≡ false) × (is_summand E F ≡ false)
Shape (cat E F) = Shape E × Shape F × Solid E × (is_cat E ≡ false) × Solid F
Shape (star E) = Shape E × Solid E × (is_star E ≡ false)

-- ── the constructors build such expressions ──

joined_shape : (E F G : Exp) → Shape E → (Solid F → Shape G) → Shape (joined E F G)
joined_shape E F G h k = go (is_zero F) (is_one F) refl refl
  where
    go : (c d : Bool) → is_zero F ≡ c → is_one F ≡ d → Shape (cond c zero (cond d E G))
    go true d e f = tt
    go false true e f = h
    go false false e f = k (e, f)

pub cat_shape : (E F : Exp) → Shape E → Shape F → Shape (cat_of E F)
cat_shape (event b) F h k = joined_shape (event b) F (cat (event b) F) h (λ s. (h, k, (refl, refl), refl, s))
cat_shape one F h k = k
cat_shape zero F h k = tt
cat_shape (sum A B) F h k = joined_shape (sum A B) F (cat (sum A B) F) h (λ s. (h, k, (refl, refl), refl, s))
cat_shape (cat A B) F h k =
    joined_shape (cat A B) F (cat_of A (cat_of B F)) h (λ s. cat_shape A (cat_of B F) h.0 (cat_shape B F h.1 k))
cat_shape (star A) F h k = joined_shape (star A) F (cat (star A) F) h (λ s. (h, k, (refl, refl), refl, s))

added_shape : (E F : Exp) → Shape E → Shape F → is_zero E ≡ false → is_sum E ≡ false → Shape (added E F)
added_shape E F h k z s = go (is_zero F) (is_summand E F) refl refl
  where
    go : (c d : Bool) → is_zero F ≡ c → is_summand E F ≡ d → Shape (cond c E (cond d F (sum E F)))
    go true d e f = h
    go false true e f = k
    go false false e f = (h, k, z, s, e, f)

pub sum_shape : (E F : Exp) → Shape E → Shape F → Shape (sum_of E F)
sum_shape (event b) F h k = added_shape (event b) F h k refl refl
sum_shape one F h k = added_shape one F h k refl refl
sum_shape zero F h k = k
sum_shape (sum A B) F h k = go (is_zero F) (sum_shape A (sum_of B F) h.0 (sum_shape B F h.1 k))
  where
    go : (c : Bool) → Shape (sum_of A (sum_of B F)) → Shape (cond c (sum A B) (sum_of A (sum_of B F)))
    go true l = h
    go false l = l
sum_shape (cat A B) F h k = added_shape (cat A B) F h k refl refl
sum_shape (star A) F h k = added_shape (star A) F h k refl refl

pub star_shape : (E : Exp) → Shape E → Shape (star_of E)
star_shape (event b) h = (h, (refl, refl), refl)
star_shape one h = tt
star_shape zero h = tt
star_shape (sum A B) h = (h, (refl, refl), refl)
star_shape (cat A B) h = (h, (refl, refl), refl)
star_shape (star A) h = h

event_shape : (b : ℕ) (c : Bool) → Shape (cond c (event b) zero)
event_shape b true = tt
event_shape b false = tt

pub restrict_shape : (p : ℕ → Bool) (E : Exp) → Shape (restrict p E)
restrict_shape p (event b) = event_shape b (p b)
restrict_shape p one = tt
restrict_shape p zero = tt
restrict_shape p (sum E F) = sum_shape (restrict p E) (restrict p F) (restrict_shape p E) (restrict_shape p F)
restrict_shape p (cat E F) = cat_shape (restrict p E) (restrict p F) (restrict_shape p E) (restrict_shape p F)
restrict_shape p (star E) = star_shape (restrict p E) (restrict_shape p E)

-- ── of such parts the constructors make the plain expression ──

joined_plain : (E F G : Exp) → Solid F → joined E F G ≡ G
joined_plain E F G s = λ i. cond (s.0 i) zero (cond (s.1 i) E G)

cat_plain : (E F : Exp) → Solid E → is_cat E ≡ false → Solid F → cat_of E F ≡ cat E F
cat_plain (event b) F h c s = joined_plain (event b) F (cat (event b) F) s
cat_plain one F h c s = absurd (true≢false h.1)
cat_plain zero F h c s = absurd (true≢false h.0)
cat_plain (sum A B) F h c s = joined_plain (sum A B) F (cat (sum A B) F) s
cat_plain (cat A B) F h c s = absurd (true≢false c)
cat_plain (star A) F h c s = joined_plain (star A) F (cat (star A) F) s

cat_solid : (E F : Exp) → Shape E → Solid E → Solid F → Solid (cat_of E F)
cat_solid (event b) F h s k = subst Solid (sym (joined_plain (event b) F (cat (event b) F) k)) (refl, refl)
cat_solid one F h s k = absurd (true≢false s.1)
cat_solid zero F h s k = absurd (true≢false s.0)
cat_solid (sum A B) F h s k = subst Solid (sym (joined_plain (sum A B) F (cat (sum A B) F) k)) (refl, refl)
cat_solid (cat A B) F h s k =
    subst Solid (sym (joined_plain (cat A B) F (cat_of A (cat_of B F)) k))
    (cat_solid A (cat_of B F) h.0 h.2 (cat_solid B F h.1 h.4 k))
cat_solid (star A) F h s k = subst Solid (sym (joined_plain (star A) F (cat (star A) F) k)) (refl, refl)

added_plain : (E F : Exp) → is_zero F ≡ false → is_summand E F ≡ false → added E F ≡ sum E F
added_plain E F z s = λ i. cond (z i) E (cond (s i) F (sum E F))

sum_plain : (E F : Exp) → is_zero E ≡ false → is_sum E ≡ false → is_zero F ≡ false → is_summand E F ≡ false
    → sum_of E F ≡ sum E F
sum_plain (event b) F h c z s = added_plain (event b) F z s
sum_plain one F h c z s = added_plain one F z s
sum_plain zero F h c z s = absurd (true≢false h)
sum_plain (sum A B) F h c z s = absurd (true≢false c)
sum_plain (cat A B) F h c z s = added_plain (cat A B) F z s
sum_plain (star A) F h c z s = added_plain (star A) F z s

star_plain : (E : Exp) → Solid E → is_star E ≡ false → star_of E ≡ star E
star_plain (event b) s c = refl
star_plain one s c = absurd (true≢false s.1)
star_plain zero s c = absurd (true≢false s.0)
star_plain (sum A B) s c = refl
star_plain (cat A B) s c = refl
star_plain (star A) s c = absurd (true≢false c)

-- ── normalised expressions are those of this shape ──

pub normal_from_shape : (E : Exp) → Shape E → Normal E
normal_from_shape (event b) h = refl
normal_from_shape one h = refl
normal_from_shape zero h = refl
normal_from_shape (sum E F) h =
    (λ i. sum_of (normal_from_shape E h.0 i) (normal_from_shape F h.1 i)) ∙ sum_plain E F h.2 h.3 h.4 h.5
normal_from_shape (cat E F) h =
    (λ i. cat_of (normal_from_shape E h.0 i) (normal_from_shape F h.1 i)) ∙ cat_plain E F h.2 h.3 h.4
normal_from_shape (star E) h = (λ i. star_of (normal_from_shape E h.0 i)) ∙ star_plain E h.1 h.2

pub shape_from_normal : (E : Exp) → Normal E → Shape E
shape_from_normal E e = subst Shape e (restrict_shape (λ _. true) E)

pub normal_built : NormalBuilt
normal_built = (
  λ b. refl,
  refl,
  refl,
  λ E F h k. normal_from_shape (cat_of E F) (cat_shape E F (shape_from_normal E h) (shape_from_normal F k)),
  λ E F h k. normal_from_shape (sum_of E F) (sum_shape E F (shape_from_normal E h) (shape_from_normal F k)),
  λ E h. normal_from_shape (star_of E) (star_shape E (shape_from_normal E h)),
  λ E. normal_from_shape (normal E) (restrict_shape (λ _. true) E),
  λ rel a E. normal_from_shape (restrict (rel a) E) (restrict_shape (rel a) E),
)

pub normal_plain : NormalPlain
normal_plain = (
  λ A B F h z o. let s = shape_from_normal (cat A B) h in
      joined_plain (cat A B) F (cat_of A (cat_of B F)) (z, o)
      ∙ cat_plain A (cat_of B F) s.2 s.3 (cat_solid B F s.1 s.4 (z, o)),
  λ E h. let s = shape_from_normal (star E) h in star_plain E s.1 s.2,
)

-- ── no Zero inside, and so a word ──

pub no_zero : (E : Exp) → Shape E → is_zero E ≡ false → NoZero E
no_zero (event b) h z = tt
no_zero one h z = tt
no_zero zero h z = true≢false z
no_zero (sum E F) h z = (no_zero E h.0 h.2, no_zero F h.1 h.4)
no_zero (cat E F) h z = (no_zero E h.0 h.2.0, no_zero F h.1 h.4.0)
no_zero (star E) h z = no_zero E h.0 h.1.0

pub has_word : (E : Exp) → NoZero E → (w : Word) × Matches E w
has_word (event b) n = (b ∷ [], refl)
has_word one n = ([], refl)
has_word zero n = absurd n
has_word (sum E F) n = let r = has_word E n.0 in (r.0, inl r.1)
has_word (cat E F) n =
    let r = has_word E n.0 in
    let s = has_word F n.1 in
    (r.0 ++ s.0, (r.0, s.0, refl, r.1, s.1))
has_word (star E) n = ([], done refl)

zero_or_none : (E : Exp) → Normal E → (E ≡ zero) ⊎ NoZero E
zero_or_none E h = go (is_zero E) refl
  where
    go : (c : Bool) → is_zero E ≡ c → (E ≡ zero) ⊎ NoZero E
    go true e = inl (zero_is E e)
    go false e = inr (no_zero E (shape_from_normal E h) e)

pub normal_has_word : NormalHasWord
normal_has_word = (zero_or_none, has_word)
