use Rattle.std.proofs.Common.{◌≡◌, [], drop, vec_items}
use Rattle.traces.specs.Words.{never}
use Rattle.traces.specs.Derivatives.{next}
use Rattle.expressions.specs.Model.{models}
use Rattle.sets.specs.Distinct.{append_each}
use Rattle.sets.proofs.matching.advance.Given as goal

abbrev pub invariant-loop-member : goal.invariant-loop-member
invariant-loop-member l =
    append_each (next never l.step.event (models (drop l.member-index l.members))) (models (vec_items l.out))
    ≡ append_each (next never l.step.event (models l.members)) []
