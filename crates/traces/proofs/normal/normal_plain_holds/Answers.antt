use Rattle.traces.proofs.NormalForms.{normal_plain}
use Rattle.traces.proofs.normal.normal_plain_holds.Goals as goal

pub returns : goal.returns
returns c = normal_plain
