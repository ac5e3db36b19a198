use Rattle.traces.proofs.Sets.{nullable_closure}
use Rattle.traces.proofs.decision.nullable_closure_holds.Goals as goal

pub returns : goal.returns
returns c = nullable_closure
