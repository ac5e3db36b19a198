use Rattle.traces.proofs.Swapping.{swaps_reach_order}
use Rattle.traces.proofs.swaps.swaps_reach_order_holds.Goals as goal

pub returns : goal.returns
returns c = swaps_reach_order
