use Rattle.traces.proofs.Ordering.{order_total}
use Rattle.traces.proofs.order.order_total_holds.Goals as goal

pub returns : goal.returns
returns c = order_total
