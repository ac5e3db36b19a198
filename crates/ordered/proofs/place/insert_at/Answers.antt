use Rattle.ordered.proofs.Opening.{part, turned, opened_front, opened_rest}
use Rattle.ordered.proofs.place.insert_at.Goals as goal

pub returns : goal.returns
returns g c =
    let s = c.args.store.now in
    let n = c.args.len in
    let p = c.args.p in
    let x = c.args.x in
    let lt = c.requires.0 in
    let le = c.requires.1 in
    let r = c.rotate_right.new.self in
    let e = turned s n p x lt le _ r (part s n p x lt le) c.rotate_right.ensures.after in
    record { front = opened_front s n p x lt le r e; rest = opened_rest s n p x lt le r e }
