use Rattle.std.proofs.Common.{◌∙◌}
use Rattle.std.specs.Ordering.{eq_by_cmp}
use Rattle.ordered.proofs.Adding.{told_full}
use Rattle.ordered.specs.Lists.{members}
use Rattle.tables.specs.Pairing.{pair_cmp}
use Rattle.tables.proofs.PairOrder.{member_ties}
use Rattle.tables.proofs.Rooming.{never_full, still_few}
use Rattle.tables.proofs.apart.Pairs.add.Goals as goal

pub invariant_of-self-clause-few : goal.invariant_of-self-clause-few
invariant_of-self-clause-few c =
    let pairs = c.args.self.now in
    still_few c.args.p c.args.q c.if-p-q.false c.requires.left c.requires.right c.as_pair.result c.as_pair.ensures members pairs.list c.add.new.self pairs.few c.add.result c.add.ensures.exact

pub unreachable-requires : goal.unreachable-requires
unreachable-requires c =
    let pairs = c.args.self.now in
    let l = pairs.list in
    let full = told_full (eq_by_cmp pair_cmp) c.as_pair.result l _ c.in-Err.ensures.answers in
    never_full c.args.p c.args.q c.if-p-q.false c.requires.left c.requires.right c.as_pair.result c.as_pair.ensures l.len l.store.now pairs.few pairs.room l.rising (member_ties (members l) c.as_pair.result ∙ full.0) full.1
