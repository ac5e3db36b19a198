use Rattle.traces.proofs.NormalWords.{keep_words}
use Rattle.traces.proofs.derivatives.keep_words_holds.Goals as goal

pub returns : goal.returns
returns c = keep_words
