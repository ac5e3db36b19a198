use Rattle.traces.proofs.Ordering.{order_equal}
use Rattle.traces.proofs.order.order_equal_holds.Goals as goal

pub returns : goal.returns
returns c = order_equal
