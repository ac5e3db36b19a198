use Rattle.std.proofs.Common.{get_or}
use Rattle.tables.specs.Numbering.{no_field}
use Rattle.tables.proofs.Known.{process_below}
use Rattle.tables.proofs.apart.Pairs.add_record.Goals as goal

pub add-requires-clause-left : goal.add-requires-clause-left
add-requires-clause-left c =
    let events = c.args.events.now in
    let names = c.processes-processes in
    process_below events.text.now events.entries events.exact _ names.ensures.fields names.result.text.now c.args.text.now (get_or c.args.fields 0 no_field) _ c.in_ok-p.ensures

pub add-requires-clause-right : goal.add-requires-clause-right
add-requires-clause-right c =
    let events = c.args.events.now in
    let names = c.processes-processes in
    process_below events.text.now events.entries events.exact _ names.ensures.fields names.result.text.now c.args.text.now (get_or c.args.fields 1 no_field) _ c.in_ok-q.ensures
