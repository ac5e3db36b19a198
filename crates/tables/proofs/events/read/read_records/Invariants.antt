use Rattle.std.proofs.Common.{◌≡◌, ◌-◌, length}
use Rattle.tables.specs.Entering.{no_entries, add_record}
use Rattle.tables.specs.Folding.{records_from}
use Rattle.tables.proofs.events.read.read_records.Given as goal

abbrev pub invariant-loop-entries : goal.invariant-loop-entries
invariant-loop-entries l = record {
  text : l.text ≡ l.initial.records.text.now;
  same : l.records.text.now ≡ l.initial.records.text.now;
  adds : records_from 4 (add_record l.initial.records.text.now) l.initial.records.text.now l.records.position.place l.entries
      ≡ records_from 4 (add_record l.initial.records.text.now) l.initial.records.text.now l.initial.records.position.place no_entries;
}

abbrev pub decreases-loop-entries : goal.decreases-loop-entries
decreases-loop-entries l = length l.records.text.now - l.records.position.place
