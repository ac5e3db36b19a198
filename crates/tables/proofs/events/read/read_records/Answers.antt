use Rattle.std.proofs.Common.{Ok, sym, ap, ◌∙◌, rules}
use Rattle.tables.specs.Entering.{add_record}
use Rattle.tables.proofs.Turns.{turn_fault, turn_some, turn_on}
use Rattle.tables.proofs.events.read.read_records.Goals as goal

pub returns-in_err-fields : goal.returns-in_err-fields
returns-in_err-fields c =
    let l = c.loop-entries in
    let text = c.args.records.text.now in
    let d = sym l.invariant.adds ∙ turn_fault 4 (add_record text) text _ l.invariant.same l.records.position.place l.entries _ c.in_err-fields.ensures.read in
    rw d (search rules)

pub loop-entries-preserved : goal.loop-entries-preserved
loop-entries-preserved c =
    let l = c.loop-entries in
    let text = c.args.records.text.now in
    let read = c.in_ok-fields.ensures in
    record {
      text = c.text-text.ensures;
      same = ap (λ x. x.now) read.kept.0 ∙ l.invariant.same;
      adds =
          turn_on 4 (add_record text) text _ l.invariant.same l.records.position.place l.entries c.in-Some.fields (sym (ap Ok c.in-Some.is) ∙ read.read) c.add_record.new.self _
          (rw c.text-text.ensures at c.in_ok-add_record.ensures) read.moved
          ∙ l.invariant.adds;
    }

pub returns-in_err-add_record : goal.returns-in_err-add_record
returns-in_err-add_record c =
    let l = c.loop-entries in
    let text = c.args.records.text.now in
    let d = sym l.invariant.adds ∙ turn_some 4 (add_record text) text _ l.invariant.same l.records.position.place l.entries c.in-Some.fields (sym (ap Ok c.in-Some.is) ∙ c.in_ok-fields.ensures.read) in
    let told = rw c.text-text.ensures at c.in_err-add_record.ensures in
    rw d (search rules)
