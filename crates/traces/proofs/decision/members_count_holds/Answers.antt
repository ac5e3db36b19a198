use Rattle.traces.proofs.Sets.{members_count}
use Rattle.traces.proofs.decision.members_count_holds.Goals as goal

pub returns : goal.returns
returns c = members_count
