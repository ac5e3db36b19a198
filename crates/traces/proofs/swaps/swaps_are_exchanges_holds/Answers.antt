use Rattle.traces.proofs.Swapping.{swaps_are_exchanges}
use Rattle.traces.proofs.swaps.swaps_are_exchanges_holds.Goals as goal

pub returns : goal.returns
returns c = swaps_are_exchanges
