use Rattle.traces.proofs.Sets.{empty_stays_empty}
use Rattle.traces.proofs.decision.empty_stays_empty_holds.Goals as goal

pub returns : goal.returns
returns c = empty_stays_empty
