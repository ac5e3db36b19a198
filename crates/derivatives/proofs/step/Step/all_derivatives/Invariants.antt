use Rattle.std.proofs.Common.{◌≡◌, take, vec_items}
use Rattle.traces.specs.Derivatives.{next}
use Rattle.expressions.specs.Model.{models}
use Rattle.derivatives.proofs.step.Step.all_derivatives.Given as goal

abbrev pub invariant-loop-e : goal.invariant-loop-e
invariant-loop-e g l =
    models (vec_items l.out) ≡ next (g.I.Relation.relation l.self.rule.now) l.self.event (models (take l.e-index l.es))
