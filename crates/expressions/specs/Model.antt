-- The expression of the theory that a tree stands for.
use Rattle.std.specs.Prelude.{ℕ, List, map}
use Rattle.traces.specs.Expressions.{Exp, event, one, zero, sum, cat, star}
use Rattle.traces.specs.Order.{symbols}
use Rattle.expressions.specs.declared.expr.Expr.{Expr}
use Rattle.expressions.specs.declared.expr.Expr.TheVariants.{Event, One, Zero, Sum', Cat', Star'}

abbrev pub model : Expr → Exp
model (Event e) = event e.number
model One = one
model Zero = zero
model (Sum' p e q f) = sum (model e) (model f)
model (Cat' p e q f) = cat (model e) (model f)
model (Star' p e) = star (model e)

abbrev pub models : List Expr → List Exp
models es = map model es

-- the prefix form
abbrev pub symbols_of : Expr → List ℕ
symbols_of e = symbols (model e)
