use Rattle.std.proofs.Common.{sym, ◌∙◌}
use Rattle.traces.proofs.Ordering.{order_by_parts}
use Rattle.expressions.specs.Model.{model}
use Rattle.expressions.proofs.Bounds.{events_below}
use Rattle.expressions.proofs.order.compare.Goals as goal

pub returns : goal.returns
returns c =
    let e = c.args.e.now in
    let f = c.args.f.now in
    c.compare_trees.ensures ∙ sym (order_by_parts (model e) (model f) (events_below e) (events_below f))
