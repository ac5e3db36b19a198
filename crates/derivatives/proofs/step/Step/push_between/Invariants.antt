use Rattle.std.proofs.Common.{◌≡◌, ◌++◌, vec_items}
use Rattle.expressions.specs.Model.{model, models}
use Rattle.derivatives.specs.Rounds.{between}
use Rattle.derivatives.proofs.step.Step.push_between.Given as goal

abbrev pub invariant-loop-d : goal.invariant-loop-d
invariant-loop-d g l =
    models (vec_items l.out) ≡ models (vec_items l.initial.out) ++ between (model l.head) (model l.tail) (models l.yielded)
