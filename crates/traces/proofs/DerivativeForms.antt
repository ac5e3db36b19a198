-- No derivative is Zero, and the derivatives of a normalised expression are normalised.
use Rattle.std.proofs.Common.{◌≡◌, ℕ, Bool, true, false, cond, eqb, ◌≢◌, List, [], ◌∷◌, map, sym, ap, ◌∙◌, subst, inl, inr, true≢false}
use Rattle.traces.specs.Members.{Member}
use Rattle.traces.specs.Words.{Rel}
use Rattle.traces.specs.Expressions.{Exp, event, one, zero, sum, cat, star}
use Rattle.traces.specs.Normal.{is_zero, cat_of, star_of, restrict}
use Rattle.traces.specs.Derivatives.{keep, nonzero, derivatives}
use Rattle.traces.specs.Theorems.{DerivativesNormal}
use Rattle.traces.proofs.Lists.{member_either, member_unmap}
use Rattle.traces.proofs.NormalForms.{Shape, cat_shape, star_shape, restrict_shape, normal_from_shape, shape_from_normal}
use Rattle.traces.proofs.DerivativeWords.{nonzero_out}

-- ── what passes on to derivatives ──

-- P passes from an expression to its parts, and from these to what a derivative builds of them
pub record Passing (P : Exp → Type 0) : Type 0 where
  pub one_has : P one
  pub sum_parts : (E F : Exp) → P (sum E F) → P E × P F
  pub cat_parts : (E F : Exp) → P (cat E F) → P E × P F
  pub star_part : (E : Exp) → P (star E) → P E
  pub cat_has : (E F : Exp) → P E → P F → P (cat_of E F)
  pub star_has : (E : Exp) → P E → P (star_of E)
  pub kept_has : (p : ℕ → Bool) (E : Exp) → P E → P (restrict p E)

module _ (P : Exp → Type 0) (c : Passing P) (rel : Rel) (a : ℕ) where
  event_passes : (F : Exp) (t : Bool) → Member F (cond t (one ∷ []) []) → P F
  event_passes F true (inl e) = subst P (sym e) c.one_has
  event_passes F true (inr m) = absurd m
  event_passes F false m = absurd m

  -- of all f E, for the members E
  map_passes : (f : Exp → Exp) (Es : List Exp) → ((E : Exp) → Member E Es → P (f E)) → (F : Exp) → Member F (nonzero (map f Es)) → P F
  map_passes f Es h F m =
      let r = member_unmap f F Es (nonzero_out F (map f Es) m).0 in subst P (sym r.2) (h r.0 r.1)

  pub passes : (E F : Exp) → P E → Member F (derivatives rel a E) → P F
  passes (event b) F h m = event_passes F (eqb b a) m
  passes one F h m = absurd m
  passes zero F h m = absurd m
  passes (sum A B) F h m =
      elim (member_either F (derivatives rel a A) (derivatives rel a B) m) [
        | inl k ↦ passes A F (c.sum_parts A B h).0 k
        | inr k ↦ passes B F (c.sum_parts A B h).1 k
      ]
  passes (cat A B) F h m =
      let f = λ (A' : Exp). cat_of A' B in
      let g = λ (B' : Exp). cat_of (keep rel a A) B' in
      let p = c.cat_parts A B h in
      elim (member_either F (nonzero (map f (derivatives rel a A))) (nonzero (map g (derivatives rel a B))) m) [
        | inl k ↦ map_passes f (derivatives rel a A) (λ A' l. c.cat_has A' B (passes A A' p.0 l) p.1) F k
        | inr k ↦ map_passes g (derivatives rel a B)
            (λ B' l. c.cat_has (keep rel a A) B' (c.kept_has (rel a) A p.0) (passes B B' p.1 l)) F k
      ]
  passes (star A) F h m =
      let K = keep rel a A in
      let p = c.star_part A h in
      map_passes (λ A'. cat_of (star_of K) (cat_of A' (star_of A))) (derivatives rel a A)
      (λ A' l. c.cat_has (star_of K) (cat_of A' (star_of A)) (c.star_has K (c.kept_has (rel a) A p))
      (c.cat_has A' (star_of A) (passes A A' p l) (c.star_has A p))) F m

-- ── normal forms ──

not_zero : (E : Exp) → is_zero E ≡ false → E ≢ zero
not_zero E z e = true≢false (sym (ap is_zero e) ∙ z)

event_nonzero : (F : Exp) (t : Bool) → Member F (cond t (one ∷ []) []) → F ≢ zero
event_nonzero F true (inl e) = not_zero F (ap is_zero e)
event_nonzero F true (inr m) = absurd m
event_nonzero F false m = absurd m

derivative_nonzero : (rel : Rel) (a : ℕ) (E F : Exp) → Member F (derivatives rel a E) → F ≢ zero
derivative_nonzero rel a (event b) F m = event_nonzero F (eqb b a) m
derivative_nonzero rel a one F m = absurd m
derivative_nonzero rel a zero F m = absurd m
derivative_nonzero rel a (sum A B) F m =
    elim (member_either F (derivatives rel a A) (derivatives rel a B) m) [
      | inl k ↦ derivative_nonzero rel a A F k
      | inr k ↦ derivative_nonzero rel a B F k
    ]
derivative_nonzero rel a (cat A B) F m =
    let As = map (λ A'. cat_of A' B) (derivatives rel a A) in
    let Bs = map (λ B'. cat_of (keep rel a A) B') (derivatives rel a B) in
    elim (member_either F (nonzero As) (nonzero Bs) m) [
      | inl k ↦ not_zero F (nonzero_out F As k).1
      | inr k ↦ not_zero F (nonzero_out F Bs k).1
    ]
derivative_nonzero rel a (star A) F m =
    not_zero F (nonzero_out F (map (λ A'. cat_of (star_of (keep rel a A)) (cat_of A' (star_of A))) (derivatives rel a A)) m).1

shape_passing : Passing Shape
shape_passing = record {
  one_has = tt;
  sum_parts = λ E F h. (h.0, h.1);
  cat_parts = λ E F h. (h.0, h.1);
  star_part = λ E h. h.0;
  cat_has = cat_shape;
  star_has = star_shape;
  kept_has = λ p E h. restrict_shape p E;
}

pub derivatives_normal : DerivativesNormal
derivatives_normal = (
  derivative_nonzero,
  λ rel a E F h m. normal_from_shape F (passes Shape shape_passing rel a E F (shape_from_normal E h) m),
)
