use Rattle.traces.proofs.Reordering.{closure_by_orders}
use Rattle.traces.proofs.swaps.closure_by_orders_holds.Goals as goal

pub returns : goal.returns
returns c = closure_by_orders
