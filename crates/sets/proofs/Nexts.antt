-- How the derivatives of all members are put into a list in order, member by member.
use Rattle.std.proofs.Common.{◌≡◌, ℕ, ◌+◌, ◌<◌, List, ◌++◌, length, get_or, drop}
use Rattle.traces.specs.Words.{Rel}
use Rattle.traces.specs.Expressions.{Exp}
use Rattle.traces.specs.Order.{order}
use Rattle.traces.specs.Derivatives.{derivatives, next}
use Rattle.expressions.specs.Model.{model, models}
use Rattle.expressions.specs.declared.expr.Expr.{Expr}
use Rattle.sets.specs.Sets.{insert_each}
use Rattle.sets.proofs.Inserting.{insert-append}
use Rattle.sets.proofs.Gathering as gathering

module _ (rel : Rel) (a : ℕ) (es : List Expr) (i : ℕ) (e : Expr) (inside : i < length es) (is : e ≡ get_or es i e)
    (Ds L G : List Exp) (derived : Ds ≡ derivatives rel a (model e))
    (inv : insert_each (next rel a (models (drop i es))) L ≡ G) where
  -- the derivatives of the member at hand come first
  pub member_first : insert_each (Ds ++ next rel a (models (drop (i + 1) es))) L ≡ G
  member_first = gathering.member_first insert_each (insert-append order) rel a es i e inside is Ds L G derived inv

  pub member_step : (M : List Exp) → M ≡ insert_each Ds L → insert_each (next rel a (models (drop (i + 1) es))) M ≡ G
  member_step = gathering.member_step insert_each (insert-append order) rel a es i e inside is Ds L G derived inv
