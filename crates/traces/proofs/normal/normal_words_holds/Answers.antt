use Rattle.traces.proofs.NormalWords.{normal_words}
use Rattle.traces.proofs.normal.normal_words_holds.Goals as goal

pub returns : goal.returns
returns c = normal_words
