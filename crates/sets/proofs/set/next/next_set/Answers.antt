use Rattle.std.proofs.Common.{sym, subst}
use Rattle.derivatives.specs.Steps.{next_of}
use Rattle.expressions.specs.Model.{models}
use Rattle.sets.specs.Sets.{sorted, SameMembers}
use Rattle.sets.proofs.Sorting.{next_same}
use Rattle.sets.proofs.set.next.next_set.Goals as goal

pub returns-clause-same : goal.returns-clause-same
returns-clause-same g c =
    let s = c.args.step.now in
    let all = next_of g.I.Relation.relation s (models c.args.members.now) in
    subst (λ Es. SameMembers Es all) {x = sorted all} (sym {b = sorted all} c.in_ok-members.ensures.0)
    (next_same (g.I.Relation.relation s.rule.now) s.event c.args.members.now)
