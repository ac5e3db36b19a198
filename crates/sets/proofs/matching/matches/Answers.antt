use Rattle.std.proofs.Common.{vec_items, sym, ◌∙◌, arith}
use Rattle.std.proofs.lemmas.List.{at_drop_all}
use Rattle.expressions.specs.Model.{model, models}
use Rattle.sets.specs.Distinct.{reached}
use Rattle.sets.proofs.Appending.{reached_decides}
use Rattle.sets.proofs.matching.matches.Goals as goal

pub returns : goal.returns
returns c =
    let word = c.args.word.now in
    let members = models (vec_items c.loop-event.members) in
    reached_decides (model c.args.e.now) word members c.any_nullable.result
    (sym (at_drop_all (reached members) word c.loop-event.event-index (omega arith)) ∙ c.loop-event.invariant)
    (rw c.deref-2.ensures.value at c.any_nullable.ensures)
