use Rattle.std.proofs.Common.{◌≡◌, [], ◌∷◌, drop, vec_items}
use Rattle.expressions.specs.Model.{model, models}
use Rattle.sets.specs.Distinct.{reached}
use Rattle.sets.proofs.matching.matches.Given as goal

abbrev pub invariant-loop-event : goal.invariant-loop-event
invariant-loop-event l = reached (models (vec_items l.members)) (drop l.event-index l.word) ≡ reached (model l.e ∷ []) l.word
