use Rattle.traces.proofs.NormalWords.{equal_decides}
use Rattle.traces.proofs.normal.equal_decides_holds.Goals as goal

pub returns : goal.returns
returns c = equal_decides
