-- How a list grows by derivatives.
use Rattle.std.proofs.Common.{◌≡◌, ℕ, ◌+◌, ◌<◌, Bool, true, false, cond, List, [], ◌∷◌, ◌++◌, map, length, get_or, take, sym, refl, ap, ◌∙◌, append_assoc, append-nil}
use Rattle.std.proofs.lemmas.List.{map-append, take_more}
use Rattle.traces.specs.Words.{Rel}
use Rattle.traces.specs.Expressions.{Exp, event, one, zero, sum, cat, star}
use Rattle.traces.specs.Normal.{is_zero, cat_of}
use Rattle.traces.specs.Derivatives.{keep, nonzero, derivatives, next}
use Rattle.expressions.specs.Model.{model, models}
use Rattle.derivatives.specs.Rounds.{between}
use Rattle.expressions.specs.declared.expr.Expr.{Expr}

-- ── one turn of the loop ──

nonzero-append : (Es Fs : List Exp) → nonzero (Es ++ Fs) ≡ nonzero Es ++ nonzero Fs
nonzero-append [] Fs = refl
nonzero-append (E ∷ Es) Fs = go (is_zero E) (nonzero-append Es Fs)
  where
    go : (z : Bool) → nonzero (Es ++ Fs) ≡ nonzero Es ++ nonzero Fs
        → cond z (nonzero (Es ++ Fs)) (E ∷ nonzero (Es ++ Fs)) ≡ cond z (nonzero Es) (E ∷ nonzero Es) ++ nonzero Fs
    go true e = e
    go false e = ap (λ Gs. E ∷ Gs) e

between_push : (K F : Exp) (ds : List Expr) (d : Expr)
    → between K F (models (ds ++ d ∷ [])) ≡ between K F (models ds) ++ between K F (model d ∷ [])
between_push K F ds d =
    let f : Exp → Exp = λ E. cat_of K (cat_of E F) in
    ap (λ Es. nonzero (map f Es)) (map-append model ds (d ∷ []))
    ∙ ap nonzero (map-append f (models ds) (model d ∷ []))
    ∙ nonzero-append (map f (models ds)) (f (model d) ∷ [])

pub push_step : (K F : Exp) (start items new ds : List Expr) (d w : Expr)
    → models items ≡ models start ++ between K F (models ds) → new ≡ items ++ w ∷ []
    → model w ≡ cat_of K (cat_of (model d) F) → is_zero (model w) ≡ false
    → models new ≡ models start ++ between K F (models (ds ++ d ∷ []))
push_step K F start items new ds d w inv is value solid =
    let alone : between K F (model d ∷ []) ≡ model w ∷ [] = rw (← value, solid) refl in
    rw (is, map-append, between_push, inv, alone) (append_assoc (models start) (between K F (models ds)) (model w ∷ []))

pub skip_step : (K F : Exp) (start items ds : List Expr) (d w : Expr)
    → models items ≡ models start ++ between K F (models ds)
    → model w ≡ cat_of K (cat_of (model d) F) → is_zero (model w) ≡ true
    → models items ≡ models start ++ between K F (models (ds ++ d ∷ []))
skip_step K F start items ds d w inv value empty =
    let none : between K F (model d ∷ []) ≡ [] = rw (← value, empty) refl in
    rw (between_push, none, append-nil) inv

-- ── the derivatives of a Cat, from what the calls answered ──

-- nothing is kept in front of the list
nothing_kept : (Es : List Exp) → nonzero (map (λ E. cat_of zero E) Es) ≡ []
nothing_kept [] = refl
nothing_kept (E ∷ Es) = nothing_kept Es

pub cat_left_pushed : (rel : Rel) (a : ℕ) (A B : Exp) (start new : List Exp)
    → keep rel a A ≡ zero → new ≡ start ++ between one B (derivatives rel a A) → new ≡ start ++ derivatives rel a (cat A B)
cat_left_pushed rel a A B start new kept left = rw (kept, nothing_kept, append-nil) left

cat_one : (E : Exp) → cat_of E one ≡ E
cat_one (event b) = refl
cat_one one = refl
cat_one zero = refl
cat_one (sum A B) = refl
cat_one (cat A B) = refl
cat_one (star A) = refl

-- nothing stands behind the list
between_end : (K : Exp) (Es : List Exp) → between K one Es ≡ nonzero (map (λ E. cat_of K E) Es)
between_end K [] = refl
between_end K (E ∷ Es) =
    λ i. cond (is_zero (cat_of K (cat_one E i))) (between_end K Es i) (cat_of K (cat_one E i) ∷ between_end K Es i)

pub cat_pushed : (rel : Rel) (a : ℕ) (A B K : Exp) (start first rights new : List Exp)
    → K ≡ keep rel a A → rights ≡ derivatives rel a B
    → first ≡ start ++ between one B (derivatives rel a A) → new ≡ first ++ between K one rights
    → new ≡ start ++ derivatives rel a (cat A B)
cat_pushed rel a A B K start first rights new kept is left right =
    rw (right, left, kept, is, between_end (keep rel a A) (derivatives rel a B))
    (append_assoc start (between one B (derivatives rel a A)) (nonzero (map (λ F. cat_of (keep rel a A) F) (derivatives rel a B))))

-- ── the derivatives of all of a list ──

module _ (rel : Rel) (a : ℕ) where
  next-append : (Es Fs : List Exp) → next rel a (Es ++ Fs) ≡ next rel a Es ++ next rel a Fs
  next-append [] Fs = refl
  next-append (E ∷ Es) Fs =
      ap (λ Gs. derivatives rel a E ++ Gs) (next-append Es Fs) ∙ sym (append_assoc (derivatives rel a E) (next rel a Es) (next rel a Fs))

  pub next_more : (es : List Expr) (i : ℕ) (d : Expr) → i < length es
      → next rel a (models (take (i + 1) es)) ≡ next rel a (models (take i es)) ++ derivatives rel a (model (get_or es i d))
  next_more es i d inside =
      ap (λ ds. next rel a (models ds)) (take_more es i d inside)
      ∙ ap (next rel a) (map-append model (take i es) (get_or es i d ∷ []))
      ∙ next-append (models (take i es)) (model (get_or es i d) ∷ [])
      ∙ ap (λ Es. next rel a (models (take i es)) ++ Es) (append-nil (derivatives rel a (model (get_or es i d))))
