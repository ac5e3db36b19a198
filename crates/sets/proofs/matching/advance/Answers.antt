use Rattle.std.proofs.Common.{vec_items}
use Rattle.traces.specs.Words.{never}
use Rattle.expressions.specs.Model.{models}
use Rattle.sets.specs.Distinct.{append_each}
use Rattle.sets.proofs.Appending.{append_join}
use Rattle.sets.proofs.Gathering.{member_step}
use Rattle.sets.proofs.matching.advance.Goals as goal

pub loop-member-preserved : goal.loop-member-preserved
loop-member-preserved c =
    member_step append_each append_join never c.args.step.now.event c.args.members.now c.loop-member.member-index c.member-item.result c.loop-member-test.true c.member-item.is
    (models (vec_items c.in_ok-derivatives.field-0)) (models (vec_items c.loop-member.out)) _ c.in_ok-derivatives.ensures c.loop-member.invariant
    (models (vec_items c.append_each.new.members)) c.in_ok-append_each.ensures
