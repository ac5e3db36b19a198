use Rattle.std.proofs.Common.{sym, ap, ◌∙◌, arith}
use Rattle.std.proofs.lemmas.List.{length-take, length-drop}
use Rattle.ordered.specs.Lists.{members, spare}
use Rattle.expressions.specs.Model.{model, models}
use Rattle.sets.specs.Sets.{wide}
use Rattle.sets.specs.declared.refusal.SetRefusal.TheVariants.{TooWide}
use Rattle.sets.proofs.Widening.{models-insert, too_large, too_many, stays_narrow, refusal_passed}
use Rattle.sets.proofs.set.next.Growing.add.Goals as goal

pub returns-then-not-fits-clause-added : goal.returns-then-not-fits-clause-added
returns-then-not-fits-clause-added c = too_large (model c.args.e) (models (members c.args.self.now.list.now)) (sym c.if-not-fits.ensures)

pub invariant_of-self : goal.invariant_of-self
invariant_of-self c =
    let set = c.args.self.now in
    let all = c.add.ensures in
    let room = all.room ∙ set.room in
    record { room = room; narrow = stays_narrow c.args.e set.list.now c.add.new.self (sym c.if-not-fits.ensures) set.narrow room c.add.result all.exact }

pub returns-in_err-add-clause-added : goal.returns-in_err-add-clause-added
returns-in_err-add-clause-added c =
    let l = c.args.self.now.list.now in
    refusal_passed c.from_residual.result _ _ TooWide c.from_residual.ensures.1
    (too_many c.args.e (members l) (spare l) c.in_err-add.field-0.0 c.in_err-add.ensures.answers
    (omega (arith, length-take l.len l.store.now, length-drop l.len l.store.now, c.args.self.now.room)))

pub returns-clause-added : goal.returns-clause-added
returns-clause-added c =
    let set = c.args.self.now in
    let all = c.add.ensures in
    let grown = ap models c.in_ok-add.ensures.exact ∙ models-insert c.args.e (members set.list.now) in
    (grown, sym (ap wide grown) ∙ stays_narrow c.args.e set.list.now c.add.new.self (sym c.if-not-fits.ensures) set.narrow (all.room ∙ set.room) c.add.result all.exact)
