use Rattle.traces.proofs.NormalForms.{normal_built}
use Rattle.traces.proofs.normal.normal_built_holds.Goals as goal

pub returns : goal.returns
returns c = normal_built
