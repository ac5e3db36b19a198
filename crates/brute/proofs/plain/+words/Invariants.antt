use Rattle.std.proofs.Common.{◌+◌, ◌*◌, ◌-◌, length, max}
use Rattle.traces.specs.Order.{size}
use Rattle.expressions.specs.Model.{model}
use Rattle.brute.proofs.plain.+words.Given as goal

abbrev pub decreases-is_word : goal.decreases-is_word
decreases-is_word l = 3 * (size (model l.e.now) + length l.word.now)

abbrev pub decreases-is_cut : goal.decreases-is_cut
decreases-is_cut l = 3 * max (size (model l.a.now) + length l.word.now) (size (model l.b.now) + (length l.word.now - l.shortest)) + 2

abbrev pub decreases-is_cut-any : goal.decreases-is_cut-any
decreases-is_cut-any l = 3 * max (size (model l.a.now) + l.cut) (size (model l.b.now) + (length l.word.now - l.cut)) + 1
