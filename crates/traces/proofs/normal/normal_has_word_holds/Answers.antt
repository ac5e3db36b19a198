use Rattle.traces.proofs.NormalForms.{normal_has_word}
use Rattle.traces.proofs.normal.normal_has_word_holds.Goals as goal

pub returns : goal.returns
returns c = normal_has_word
