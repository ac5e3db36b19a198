use Rattle.std.proofs.Common.{vec_items, ap}
use Rattle.traces.specs.Normal.{is_zero}
use Rattle.expressions.specs.Model.{model}
use Rattle.expressions.proofs.Variants.{not_zero}
use Rattle.derivatives.proofs.Pushing.{push_step, skip_step}
use Rattle.derivatives.proofs.step.Step.push_between.Goals as goal

pub loop-d-preserved-in-Zero : goal.loop-d-preserved-in-Zero
loop-d-preserved-in-Zero g c =
    skip_step (model c.args.head.now) (model c.args.tail.now) (vec_items c.args.out.now) _ _ _ c.in_ok-whole.whole
    c.loop-d.invariant c.in_ok-whole.ensures (ap (λ w. is_zero (model w)) c.in-Zero.is)

pub loop-d-preserved : goal.loop-d-preserved
loop-d-preserved g c =
    push_step (model c.args.head.now) (model c.args.tail.now) (vec_items c.args.out.now) (vec_items c.loop-d.out) _ _ _ c.in_ok-whole.whole
    c.loop-d.invariant c.in_ok-push-in_default.ensures.items c.in_ok-whole.ensures (not_zero _ c.in_default.not-Zero)
