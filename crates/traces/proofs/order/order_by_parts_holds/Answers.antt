use Rattle.traces.proofs.Ordering.{order_by_parts}
use Rattle.traces.proofs.order.order_by_parts_holds.Goals as goal

pub returns : goal.returns
returns c = order_by_parts
