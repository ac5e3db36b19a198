use Rattle.std.proofs.Common.{◌≡◌, ◌++◌, vec_items, sym, ap, ◌∙◌}
use Rattle.std.proofs.lemmas.Result.{IfOk-weaker}
use Rattle.traces.specs.Expressions.{one}
use Rattle.traces.specs.Derivatives.{keep, derivatives}
use Rattle.expressions.specs.Model.{model, models}
use Rattle.derivatives.specs.Rounds.{between}
use Rattle.derivatives.proofs.Pushing.{cat_left_pushed, cat_pushed}
use Rattle.derivatives.proofs.step.Step.+deriving.Goals as goal

pub push_derivatives-returns-in-Zero : goal.push_derivatives-returns-in-Zero
push_derivatives-returns-in-Zero g t c =
    let s = c.args.self.now in
    let rel = g.I.Relation.relation s.rule.now in
    let A = model c.in-Cat.a.value in
    let B = model c.in-Cat.b.value in
    let kept : model c.in_ok-kept-in-Cat.kept ≡ keep rel s.event A = cc c.in_ok-kept-in-Cat.ensures in
    let left : models (vec_items c.push_between.new.out) ≡ models (vec_items c.args.out.now) ++ between one B (derivatives rel s.event A) = cc (c.in_ok-derivatives-in-Cat.ensures, c.in_ok-push_between-in-Cat.ensures) in
    rw c.in-Cat.is (cat_left_pushed rel s.event A B _ _ (sym kept ∙ ap model c.in-Zero.is) left)

pub push_derivatives-returns-in_ok-derivatives-in_default : goal.push_derivatives-returns-in_ok-derivatives-in_default
push_derivatives-returns-in_ok-derivatives-in_default g t c =
    let s = c.args.self.now in
    let rel = g.I.Relation.relation s.rule.now in
    let A = model c.in-Cat.a.value in
    let B = model c.in-Cat.b.value in
    let left : models (vec_items c.push_between.new.out) ≡ models (vec_items c.args.out.now) ++ between one B (derivatives rel s.event A) = cc (c.in_ok-derivatives-in-Cat.ensures, c.in_ok-push_between-in-Cat.ensures) in
    let kept : model c.in_ok-kept-in-Cat.kept ≡ keep rel s.event A = cc c.in_ok-kept-in-Cat.ensures in
    let rights : models (vec_items c.in_ok-derivatives-in_default.field-0) ≡ derivatives rel s.event B = cc c.in_ok-derivatives-in_default.ensures in
    IfOk-weaker c.push_between-in_default.result _ _
    (λ _ h. rw c.in-Cat.is (cat_pushed rel s.event A B _ _ _ _ _ kept rights left h)) c.push_between-in_default.ensures
