use Rattle.std.proofs.Common.{◌≡◌, vec_items}
use Rattle.expressions.specs.Model.{models}
use Rattle.sets.specs.Distinct.{append_each}
use Rattle.sets.proofs.distinct.append_each.Given as goal

abbrev pub invariant-loop-e : goal.invariant-loop-e
invariant-loop-e l = models (vec_items l.members) ≡ append_each (models l.yielded) (models (vec_items l.initial.members))
