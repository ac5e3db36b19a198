use Rattle.traces.proofs.Sets.{nullable_decides}
use Rattle.traces.proofs.decision.nullable_decides_holds.Goals as goal

pub returns : goal.returns
returns c = nullable_decides
