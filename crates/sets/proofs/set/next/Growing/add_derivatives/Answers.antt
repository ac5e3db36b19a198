use Rattle.std.proofs.Common.{◌+◌, drop, vec_items, ◌∙◌}
use Rattle.ordered.specs.Lists.{members}
use Rattle.traces.specs.Derivatives.{next}
use Rattle.expressions.specs.Model.{models}
use Rattle.sets.specs.Sets.{insert_each}
use Rattle.sets.proofs.Widening.{refused_each, refusal_passed}
use Rattle.sets.proofs.Nexts.{member_first, member_step}
use Rattle.sets.proofs.set.next.Growing.add_derivatives.Goals as goal

pub returns-in_err-add_all-clause-added : goal.returns-in_err-add_all-clause-added
returns-in_err-add_all-clause-added g c =
    let s = c.args.step.now in
    let es = c.args.members.now in
    let rel = g.I.Relation.relation s.rule.now in
    let f = c.in_err-add_all.field-0.0 in
    let i = c.loop-member.member-index in
    let Ds = models (vec_items c.in_ok-derivatives.field-0) in
    let L = models (members c.loop-member.self.list.now) in
    let whole = insert_each (next rel s.event (models es)) (models (members c.args.self.now.list.now)) in
    refusal_passed c.from_residual-in_err-add_all.result _ _ f c.from_residual-in_err-add_all.ensures.1
    (refused_each f Ds (next rel s.event (models (drop (i + 1) es))) L whole
    (member_first rel s.event es i c.member-item.result c.loop-member-test.true c.member-item.is Ds L whole c.in_ok-derivatives.ensures c.loop-member.invariant.added)
    c.in_err-add_all.ensures.added)

pub loop-member-preserved : goal.loop-member-preserved
loop-member-preserved g c =
    let s = c.args.step.now in
    let Ds = models (vec_items c.in_ok-derivatives.field-0) in
    let L = models (members c.loop-member.self.list.now) in
    let whole = insert_each (next (g.I.Relation.relation s.rule.now) s.event (models c.args.members.now)) (models (members c.args.self.now.list.now)) in
    let all = c.in_ok-add_all.ensures in
    record {
      added =
          member_step (g.I.Relation.relation s.rule.now) s.event c.args.members.now c.loop-member.member-index c.member-item.result c.loop-member-test.true c.member-item.is
          Ds L whole c.in_ok-derivatives.ensures c.loop-member.invariant.added (models (members c.add_all.new.self.list.now)) all.added.0;
      lent = (all.lent.0 ∙ c.loop-member.invariant.lent.0, all.lent.1 ∙ c.loop-member.invariant.lent.1);
    }
