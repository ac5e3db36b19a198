use Rattle.std.proofs.Common.{◌≡◌, get_or, Ok, Err, sym, ap, ◌∙◌}
use Rattle.lines.specs.declared.reader.Position.{Position}
use Rattle.tables.specs.Knowing.{known_in}
use Rattle.tables.specs.Logging.{place_behind}
use Rattle.tables.specs.Numbering.{no_field}
use Rattle.tables.proofs.Logs.{next_fault}
use Rattle.tables.proofs.log.LogReader.next_event.Goals as goal

pub returns-in-Err-clause-moved : goal.returns-in-Err-clause-moved
returns-in-Err-clause-moved c =
    let log = c.args.self.now in
    let table = log.events.now.text.now in
    let t = log.events.now.entries in
    let text = log.records.text.now in
    let place = log.records.position.place in
    let fields = c.in-Some.fields in
    let read = c.in_ok-fields.ensures in
    let names = c.events.ensures in
    let known : known_in table t.events text (get_or fields 0 no_field) ≡ Err c.in-Err.fault =
    cc (c.in-Err.ensures, names.text, names.fields, c.text.ensures, read.kept.0) in
    let e = next_fault table t text place fields c.in-Err.fault (sym (ap Ok c.in-Some.is) ∙ read.read) known in
    ap (λ (p : Position). p.place) (c.seek.ensures.moved ∙ c.position-before.ensures) ∙ sym (ap (place_behind place) e)
