use Rattle.traces.proofs.Exchanging.{exchanges_reverse}
use Rattle.traces.proofs.exchanges.exchanges_reverse_holds.Goals as goal

pub returns : goal.returns
returns c = exchanges_reverse
