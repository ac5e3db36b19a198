use Rattle.std.proofs.Common.{Ok, sym, ap, ◌∙◌, rules}
use Rattle.ordered.specs.Lists.{members}
use Rattle.tables.specs.Pairing.{add_pair}
use Rattle.tables.proofs.Turns.{turn_fault, turn_some, turn_on}
use Rattle.tables.proofs.apart.Pairs.read.Goals as goal

pub returns-in_err-fields : goal.returns-in_err-fields
returns-in_err-fields c =
    let l = c.loop-fields in
    let text = c.args.records.text.now in
    let add = add_pair c.args.events.now.text.now c.args.events.now.entries text in
    let d = sym l.invariant.adds ∙ turn_fault 2 add text _ l.invariant.same l.records.position.place (members l.self.list) _ c.in_err-fields.ensures.read in
    rw d (search rules)

pub loop-fields-preserved : goal.loop-fields-preserved
loop-fields-preserved c =
    let l = c.loop-fields in
    let text = c.args.records.text.now in
    let add = add_pair c.args.events.now.text.now c.args.events.now.entries text in
    let read = c.in_ok-fields.ensures in
    record {
      text = c.text-text.ensures;
      same = ap (λ x. x.now) read.kept.0 ∙ l.invariant.same;
      adds =
          turn_on 2 add text _ l.invariant.same l.records.position.place (members l.self.list) c.in-Some.fields (sym (ap Ok c.in-Some.is) ∙ read.read) (members c.add_record.new.self.list) _
          (sym (rw c.text-text.ensures at c.in_ok-add_record.ensures)) read.moved
          ∙ l.invariant.adds;
    }

pub returns-in_err-add_record : goal.returns-in_err-add_record
returns-in_err-add_record c =
    let l = c.loop-fields in
    let text = c.args.records.text.now in
    let add = add_pair c.args.events.now.text.now c.args.events.now.entries text in
    let d = sym l.invariant.adds ∙ turn_some 2 add text _ l.invariant.same l.records.position.place (members l.self.list) c.in-Some.fields (sym (ap Ok c.in-Some.is) ∙ c.in_ok-fields.ensures.read) in
    let told = rw c.text-text.ensures at c.in_err-add_record.ensures in
    rw d (search rules)
