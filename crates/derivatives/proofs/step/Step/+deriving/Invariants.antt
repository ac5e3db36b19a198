use Rattle.std.proofs.Common.{◌+◌, ◌*◌}
use Rattle.expressions.proofs.expr.Expr.TheLaws.{the_size}
use Rattle.derivatives.proofs.step.Step.+deriving.Given as goal

abbrev pub decreases-derivatives : goal.decreases-derivatives
decreases-derivatives g l = 2 * the_size l.e.now + 1

abbrev pub decreases-push_derivatives : goal.decreases-push_derivatives
decreases-push_derivatives g l = 2 * the_size l.e.now
