use Rattle.std.proofs.Common.{◌≡◌, drop}
use Rattle.ordered.specs.Lists.{members}
use Rattle.traces.specs.Derivatives.{next}
use Rattle.expressions.specs.Model.{models}
use Rattle.sets.specs.Sets.{insert_each}
use Rattle.sets.proofs.set.next.Growing.add_derivatives.Given as goal

abbrev pub invariant-loop-member : goal.invariant-loop-member
invariant-loop-member g l = record {
  added :
      insert_each (next (g.I.Relation.relation l.step.rule.now) l.step.event (models (drop l.member-index l.members))) (models (members l.self.list.now))
      ≡ insert_each (next (g.I.Relation.relation l.step.rule.now) l.step.event (models l.members)) (models (members l.initial.self.list.now));
  lent : (l.self.list.ghost_name ≡ l.initial.self.list.ghost_name) × (l.self.list.now.store.ghost_name ≡ l.initial.self.list.now.store.ghost_name);
}
