use Rattle.std.proofs.Common.{[], ◌∷◌}
use Rattle.std.specs.Vec.Iter.{into_iter_items}
use Rattle.ordered.specs.Lists.{members}
use Rattle.expressions.specs.Model.{model, models}
use Rattle.sets.proofs.Widening.{refused_each, refusal_passed}
use Rattle.sets.proofs.set.next.Growing.add_all.Goals as goal

pub returns-in_err-add-clause-added : goal.returns-in_err-add-clause-added
returns-in_err-add-clause-added c =
    let f = c.in_err-add.field-0.0 in
    refusal_passed c.from_residual.result _ _ f c.from_residual.ensures.1
    (refused_each f (model c.in-Some.e ∷ []) (models (into_iter_items c.next.new.self)) (models (members c.loop-e.self.list.now)) _
    (rw c.in-Some.ensures.steps.0 at c.loop-e.invariant.added)
    c.in_err-add.ensures.added)
