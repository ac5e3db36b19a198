use Rattle.std.proofs.Common.{◌≡◌, vec_items}
use Rattle.std.specs.Vec.Iter.{into_iter_items}
use Rattle.ordered.specs.Lists.{members}
use Rattle.expressions.specs.Model.{models}
use Rattle.sets.specs.Sets.{insert_each}
use Rattle.sets.proofs.set.next.Growing.add_all.Given as goal

abbrev pub invariant-loop-e : goal.invariant-loop-e
invariant-loop-e l = record {
  added : insert_each (models (into_iter_items l.e-iterator)) (models (members l.self.list.now)) ≡ insert_each (models (vec_items l.fn.es)) (models (members l.initial.self.list.now));
  lent : (l.self.list.ghost_name ≡ l.initial.self.list.ghost_name) × (l.self.list.now.store.ghost_name ≡ l.initial.self.list.now.store.ghost_name);
}
