use Rattle.traces.proofs.Sets.{nonempty_prefix}
use Rattle.traces.proofs.decision.nonempty_prefix_holds.Goals as goal

pub returns : goal.returns
returns c = nonempty_prefix
