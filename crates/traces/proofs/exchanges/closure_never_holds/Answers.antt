use Rattle.traces.proofs.Exchanging.{closure_never}
use Rattle.traces.proofs.exchanges.closure_never_holds.Goals as goal

pub returns : goal.returns
returns c = closure_never
