use Rattle.std.proofs.Common.{◌≡◌, ◌-◌, length}
use Rattle.ordered.specs.Lists.{members}
use Rattle.tables.specs.Folding.{records_from}
use Rattle.tables.specs.Pairing.{add_pair}
use Rattle.tables.proofs.apart.Pairs.read.Given as goal

abbrev pub invariant-loop-fields : goal.invariant-loop-fields
invariant-loop-fields l = record {
  text : l.text ≡ l.initial.records.text.now;
  same : l.records.text.now ≡ l.initial.records.text.now;
  adds : records_from 2 (add_pair l.events.text.now l.events.entries l.initial.records.text.now) l.initial.records.text.now l.records.position.place (members l.self.list)
      ≡ records_from 2 (add_pair l.events.text.now l.events.entries l.initial.records.text.now) l.initial.records.text.now l.initial.records.position.place (members l.initial.self.list);
}

abbrev pub decreases-loop-fields : goal.decreases-loop-fields
decreases-loop-fields l = length l.records.text.now - l.records.position.place
