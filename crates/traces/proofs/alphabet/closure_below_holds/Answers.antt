use Rattle.traces.proofs.Events.{closure_below}
use Rattle.traces.proofs.alphabet.closure_below_holds.Goals as goal

pub returns : goal.returns
returns c = closure_below
