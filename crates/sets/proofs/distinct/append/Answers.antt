use Rattle.std.proofs.Common.{vec_items}
use Rattle.sets.proofs.Appending.{append_known, append_new}
use Rattle.sets.proofs.distinct.append.Goals as goal

pub returns-in_ok-push : goal.returns-in_ok-push
returns-in_ok-push c =
    append_new c.args.e (vec_items c.args.members.now) c.contains.result (rw c.deref.ensures.value at c.contains.ensures.value) (vec_items c.push.new.self) c.if-not-contains.true c.in_ok-push.ensures.items

pub returns-else-not-contains : goal.returns-else-not-contains
returns-else-not-contains c =
    append_known c.args.e (vec_items c.args.members.now) c.contains.result (rw c.deref.ensures.value at c.contains.ensures.value) c.if-not-contains.false
