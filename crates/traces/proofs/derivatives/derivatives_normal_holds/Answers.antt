use Rattle.traces.proofs.DerivativeForms.{derivatives_normal}
use Rattle.traces.proofs.derivatives.derivatives_normal_holds.Goals as goal

pub returns : goal.returns
returns c = derivatives_normal
