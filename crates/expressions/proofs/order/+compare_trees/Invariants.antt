use Rattle.expressions.proofs.expr.Expr.TheLaws.{the_size}
use Rattle.expressions.proofs.order.+compare_trees.Given as goal

abbrev pub decreases-compare_trees : goal.decreases-compare_trees
decreases-compare_trees l = the_size l.e.now
