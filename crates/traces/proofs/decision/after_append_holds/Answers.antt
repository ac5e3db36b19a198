use Rattle.traces.proofs.Sets.{after-append}
use Rattle.traces.proofs.decision.after_append_holds.Goals as goal

pub returns : goal.returns
returns c = after-append
