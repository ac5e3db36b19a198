use Rattle.traces.proofs.Events.{events_stay_below}
use Rattle.traces.proofs.alphabet.events_stay_below_holds.Goals as goal

pub returns : goal.returns
returns c = events_stay_below
