use Rattle.traces.proofs.Events.{words_below}
use Rattle.traces.proofs.alphabet.words_below_holds.Goals as goal

pub returns : goal.returns
returns c = words_below
