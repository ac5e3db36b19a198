use Rattle.traces.proofs.DerivativeWords.{derivatives_closure}
use Rattle.traces.proofs.derivatives.derivatives_closure_holds.Goals as goal

pub returns : goal.returns
returns c = derivatives_closure
