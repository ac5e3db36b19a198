use Rattle.std.proofs.Common.{length, sym, ap, ◌∙◌, subst}
use Rattle.ordered.specs.Lists.{members}
use Rattle.tables.specs.Listing.{Apart}
use Rattle.tables.proofs.Known.{few_processes}
use Rattle.tables.proofs.Parting.{apart_list_lem}
use Rattle.tables.proofs.Placing.{pairs_read, front_is}
use Rattle.tables.proofs.apart.read_apart.Goals as goal

pub returns-clause-lists : goal.returns-clause-lists
returns-clause-lists c =
    let table = c.args.events.now.text.now in
    let t = c.args.events.now.entries in
    let text = c.args.text.now in
    let pairs = members c.read.new.self.list in
    let all = c.members-members.ensures.all in
    let read = rw (c.in_ok-records.ensures.0, c.new.ensures.empty) at (sym c.in_ok-read.ensures) in
    subst (Apart table t text) (sym (front_is pairs c.copy_from_slice.new.self _ (length c.members-members.result.now) (c.copy_from_slice.ensures.after ∙ all) (ap length all)))
    (apart_list_lem table t text (few_processes table t c.args.events.now.exact) pairs
    (pairs_read table t text pairs c.in_ok-records.records.position.place c.in_ok-records.ensures.1 read))
