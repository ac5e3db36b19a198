-- What a test of some member of a list decides.
use Rattle.std.proofs.Common.{◌≡◌, Bool, true, ◌||◌, ◌⊎◌, List, [], ◌∷◌, Decides, sym, refl, ap, ◌∙◌, inl, inr}
use mathlib.Core.Bool.{false≢true}
use Rattle.std.specs.List.{list_any}
use Rattle.std.proofs.lemmas.Bool.{or_cases, or_left, or_right}
use Rattle.traces.specs.Members.{Member, Any}
use Rattle.traces.specs.Expressions.{Exp}
use Rattle.expressions.specs.Model.{model, models}
use Rattle.expressions.specs.declared.expr.Expr.{Expr}

module _ (test : Exp → Bool) where
  some_in : (Es : List Exp) → list_any test Es ≡ true → Any (λ E. test E ≡ true) Es
  some_in [] h = absurd (false≢true h)
  some_in (E ∷ Es) h = go (or_cases (test E) (list_any test Es) h) (some_in Es)
    where
      go : (test E ≡ true) ⊎ (list_any test Es ≡ true) → (list_any test Es ≡ true → Any (λ F. test F ≡ true) Es) → Any (λ F. test F ≡ true) (E ∷ Es)
      go (inl k) later = (E, inl refl, k)
      go (inr k) later = let r = later k in (r.0, inr r.1, r.2)

  some_from : (E : Exp) (Es : List Exp) → Member E Es → test E ≡ true → list_any test Es ≡ true
  some_from E [] m h = absurd m
  some_from E (F ∷ Es) (inl e) h = or_left (test F) (list_any test Es) (ap test (sym e) ∙ h)
  some_from E (F ∷ Es) (inr m) h = or_right (test F) (list_any test Es) (some_from E Es m h)

  pub some_decides : (Es : List Exp) → Decides (list_any test Es) (Any (λ E. test E ≡ true) Es)
  some_decides Es = (some_in Es, λ s. some_from s.0 Es s.1 s.2)

  -- the test of the trees themselves
  pub list_any-models : (es : List Expr) → list_any test (models es) ≡ list_any (λ e. test (model e)) es
  list_any-models [] = refl
  list_any-models (e ∷ es) = ap (λ b. test (model e) || b) (list_any-models es)
