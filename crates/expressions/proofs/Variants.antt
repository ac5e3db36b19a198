-- What a tree is not, by its variant.
use Rattle.std.proofs.Common.{◌≡◌, false, refl}
use Rattle.traces.specs.Normal.{is_zero}
use Rattle.expressions.specs.Model.{model}
use Rattle.expressions.specs.declared.expr.Expr.{Expr}
use Rattle.expressions.specs.declared.expr.Expr.TheVariants.{Event, One, Zero, Sum', Cat', Star'}

pub not_zero : (e : Expr) → (e ≡ Zero → ⊥) → is_zero (model e) ≡ false
not_zero (Event b) h = refl
not_zero One h = refl
not_zero Zero h = absurd (h refl)
not_zero (Sum' p a q b) h = refl
not_zero (Cat' p a q b) h = refl
not_zero (Star' p a) h = refl
