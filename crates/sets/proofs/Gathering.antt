-- How the derivatives of all members are gathered, member by member, whatever they are put into.
use Rattle.std.proofs.Common.{◌≡◌, ℕ, ◌+◌, ◌<◌, List, ◌++◌, length, get_or, drop, sym, ap, ◌∙◌}
use Rattle.std.proofs.lemmas.List.{at_drop_more}
use Rattle.traces.specs.Words.{Rel}
use Rattle.traces.specs.Expressions.{Exp}
use Rattle.traces.specs.Derivatives.{derivatives, next}
use Rattle.expressions.specs.Model.{model, models}
use Rattle.expressions.specs.declared.expr.Expr.{Expr}

-- `gather` puts each of a list into another in turn
module _ (gather : List Exp → List Exp → List Exp) (joins : (Ds Es L : List Exp) → gather (Ds ++ Es) L ≡ gather Es (gather Ds L))
    (rel : Rel) (a : ℕ) (es : List Expr) (i : ℕ) (e : Expr) (inside : i < length es) (is : e ≡ get_or es i e)
    (Ds L G : List Exp) (derived : Ds ≡ derivatives rel a (model e))
    (inv : gather (next rel a (models (drop i es))) L ≡ G) where
  -- the derivatives of the member at hand come first
  pub member_first : gather (Ds ++ next rel a (models (drop (i + 1) es))) L ≡ G
  member_first =
      ap (λ Es. gather (Es ++ next rel a (models (drop (i + 1) es))) L) (derived ∙ ap (λ d. derivatives rel a (model d)) is)
      ∙ sym (at_drop_more (λ ds. gather (next rel a (models ds)) L) es i e inside) ∙ inv

  pub member_step : (L' : List Exp) → L' ≡ gather Ds L → gather (next rel a (models (drop (i + 1) es))) L' ≡ G
  member_step L' grown =
      ap (gather (next rel a (models (drop (i + 1) es)))) grown
      ∙ sym (joins Ds (next rel a (models (drop (i + 1) es))) L) ∙ member_first
