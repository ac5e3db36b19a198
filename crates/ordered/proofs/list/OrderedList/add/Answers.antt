use Rattle.std.proofs.Common.{sym, refl, arith}
use Rattle.std.proofs.lemmas.List.{drop-drop}
use Rattle.ordered.proofs.Adding.{put_in, still_rising, one_more, had_room}
use Rattle.ordered.proofs.Contents.{total, holds}
use Rattle.ordered.specs.Lists.{members}
use Rattle.ordered.proofs.list.OrderedList.add.Goals as goal

pub returns-in-Ok-clause-holds : goal.returns-in-Ok-clause-holds
returns-in-Ok-clause-holds g c =
    let laws = g.met.E.TotalOrder in
    let xs = members c.args.self.now in
    holds g.E.TotalOrder.content g.E.TotalOrder.order laws.same laws.converse laws.transitive c.args.x xs xs (sym c.in-Ok.ensures.1)

pub invariant_of-self : goal.invariant_of-self
invariant_of-self g c =
    let laws = g.met.E.TotalOrder in
    let o = total g.E.TotalOrder.content g.E.TotalOrder.order laws.same laws.converse laws.transitive in
    let l = c.args.self.now in
    record {
      within = omega arith;
      rising = still_rising o (λ p q. refl) c.args.x l.len c.in-Err.place l.store.now c.insert_at.new.store c.in-Err.ensures c.insert_at.ensures.front l.rising;
    }

pub returns-else-self-capacity-clause-answers : goal.returns-else-self-capacity-clause-answers
returns-else-self-capacity-clause-answers g c =
    let laws = g.met.E.TotalOrder in
    let o = total g.E.TotalOrder.content g.E.TotalOrder.order laws.same laws.converse laws.transitive in
    let l = c.args.self.now in
    had_room o (λ p q. refl) c.args.x l.len c.in-Err.place l.store.now c.insert_at.new.store c.in-Err.ensures c.insert_at.ensures.front (omega arith)

pub returns-else-self-capacity-clause-rest : goal.returns-else-self-capacity-clause-rest
returns-else-self-capacity-clause-rest g c =
    let l = c.args.self.now in
    rw drop-drop c.insert_at.ensures.rest

pub returns-else-self-capacity-clause-holds : goal.returns-else-self-capacity-clause-holds
returns-else-self-capacity-clause-holds g c =
    let laws = g.met.E.TotalOrder in
    let o = total g.E.TotalOrder.content g.E.TotalOrder.order laws.same laws.converse laws.transitive in
    let l = c.args.self.now in
    holds g.E.TotalOrder.content g.E.TotalOrder.order laws.same laws.converse laws.transitive c.args.x _ _
    (put_in o (λ p q. refl) c.args.x l.len c.in-Err.place l.store.now c.insert_at.new.store c.in-Err.ensures c.insert_at.ensures.front)

pub returns-else-self-capacity-clause-found : goal.returns-else-self-capacity-clause-found
returns-else-self-capacity-clause-found g c =
    let laws = g.met.E.TotalOrder in
    let o = total g.E.TotalOrder.content g.E.TotalOrder.order laws.same laws.converse laws.transitive in
    let l = c.args.self.now in
    one_more o (λ p q. refl) c.args.x l.len c.in-Err.place l.store.now c.insert_at.new.store c.in-Err.ensures c.insert_at.ensures.front
