-- Words, closures and derivatives have no other events than the expression.
use Rattle.std.proofs.Common.{ℕ, ◌<◌, Bool, true, false, cond, sym, subst, inl, inr}
use Rattle.std.proofs.ByRecursion.{All-append}
use Rattle.traces.specs.Words.{Word, Below}
use Rattle.traces.specs.Expressions.{Exp, event, one, zero, sum, cat, star, Rounds, done, more, Matches, EventsBelow}
use Rattle.traces.specs.Normal.{is_zero, is_one, is_summand, joined, cat_of, added, sum_of, star_of, restrict}
use Rattle.traces.specs.Theorems.{WordsBelow, ClosureBelow, EventsStayBelow}
use Rattle.traces.proofs.Exchanging.{all_exchanges}
use Rattle.traces.proofs.DerivativeForms.{Passing, passes}

module _ (n : ℕ) where
  -- ── words ──

  rounds_below : {P : Word → Type 0} → ((u : Word) → P u → Below n u) → (w : Word) → Rounds P w → Below n w
  rounds_below f w (done e) = subst (Below n) (sym e) tt
  rounds_below f w (more u v e i r) =
      subst (Below n) (sym e) (All-append (λ b. b < n) u v (f u i) (rounds_below f v r))

  word_below : (E : Exp) (w : Word) → EventsBelow n E → Matches E w → Below n w
  word_below (event b) w h i = subst (Below n) (sym i) (h, tt)
  word_below one w h i = subst (Below n) (sym i) tt
  word_below zero w h i = absurd i
  word_below (sum E F) w h (inl i) = word_below E w h.0 i
  word_below (sum E F) w h (inr i) = word_below F w h.1 i
  word_below (cat E F) w h i =
      subst (Below n) (sym i.2)
      (All-append (λ b. b < n) i.0 i.1 (word_below E i.0 h.0 i.3) (word_below F i.1 h.1 i.4))
  word_below (star E) w h i = rounds_below (λ u j. word_below E u h j) w i

  -- ── the normalising constructors ──

  joined_below : (E F G : Exp) → EventsBelow n E → EventsBelow n G → EventsBelow n (joined E F G)
  joined_below E F G h k = go (is_zero F) (is_one F)
    where
      go : (c d : Bool) → EventsBelow n (cond c zero (cond d E G))
      go true d = tt
      go false true = h
      go false false = k

  cat_below : (E F : Exp) → EventsBelow n E → EventsBelow n F → EventsBelow n (cat_of E F)
  cat_below (event b) F h k = joined_below (event b) F (cat (event b) F) h (h, k)
  cat_below one F h k = k
  cat_below zero F h k = tt
  cat_below (sum A B) F h k = joined_below (sum A B) F (cat (sum A B) F) h (h, k)
  cat_below (cat A B) F h k =
      joined_below (cat A B) F (cat_of A (cat_of B F)) h (cat_below A (cat_of B F) h.0 (cat_below B F h.1 k))
  cat_below (star A) F h k = joined_below (star A) F (cat (star A) F) h (h, k)

  added_below : (E F : Exp) → EventsBelow n E → EventsBelow n F → EventsBelow n (added E F)
  added_below E F h k = go (is_zero F) (is_summand E F)
    where
      go : (c d : Bool) → EventsBelow n (cond c E (cond d F (sum E F)))
      go true d = h
      go false true = k
      go false false = (h, k)

  sum_below : (E F : Exp) → EventsBelow n E → EventsBelow n F → EventsBelow n (sum_of E F)
  sum_below (event b) F h k = added_below (event b) F h k
  sum_below one F h k = added_below one F h k
  sum_below zero F h k = k
  sum_below (sum A B) F h k = go (is_zero F) (sum_below A (sum_of B F) h.0 (sum_below B F h.1 k))
    where
      go : (c : Bool) → EventsBelow n (sum_of A (sum_of B F)) → EventsBelow n (cond c (sum A B) (sum_of A (sum_of B F)))
      go true l = h
      go false l = l
  sum_below (cat A B) F h k = added_below (cat A B) F h k
  sum_below (star A) F h k = added_below (star A) F h k

  star_below : (E : Exp) → EventsBelow n E → EventsBelow n (star_of E)
  star_below (event b) h = h
  star_below one h = tt
  star_below zero h = tt
  star_below (sum A B) h = h
  star_below (cat A B) h = h
  star_below (star A) h = h

  event_below : (b : ℕ) (c : Bool) → b < n → EventsBelow n (cond c (event b) zero)
  event_below b true h = h
  event_below b false h = tt

  restrict_below : (p : ℕ → Bool) (E : Exp) → EventsBelow n E → EventsBelow n (restrict p E)
  restrict_below p (event b) h = event_below b (p b) h
  restrict_below p one h = tt
  restrict_below p zero h = tt
  restrict_below p (sum E F) h =
      sum_below (restrict p E) (restrict p F) (restrict_below p E h.0) (restrict_below p F h.1)
  restrict_below p (cat E F) h =
      cat_below (restrict p E) (restrict p F) (restrict_below p E h.0) (restrict_below p F h.1)
  restrict_below p (star E) h = star_below (restrict p E) (restrict_below p E h)

  below_passing : Passing (EventsBelow n)
  below_passing = record {
    one_has = tt;
    sum_parts = λ E F h. h;
    cat_parts = λ E F h. h;
    star_part = λ E h. h;
    cat_has = cat_below;
    star_has = star_below;
    kept_has = restrict_below;
  }

pub words_below : WordsBelow
words_below = word_below

pub closure_below : ClosureBelow
closure_below n rel E w h c = all_exchanges (λ b. b < n) rel w c.0 c.1 (word_below n E c.0 h c.2)

pub events_stay_below : EventsStayBelow
events_stay_below = (
  cat_below,
  sum_below,
  star_below,
  λ n E h. restrict_below n (λ _. true) E h,
  λ n rel a E h. restrict_below n (rel a) E h,
  λ n rel a E F h m. passes (EventsBelow n) (below_passing n) rel a E F h m,
)
