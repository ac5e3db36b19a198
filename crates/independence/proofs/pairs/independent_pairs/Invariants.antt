use Rattle.std.proofs.Common.{◌≡◌, ◌-◌, ◌++◌, vec_items}
use Rattle.independence.specs.Pairing.{event_limit, pairs_from, related, independent_pairs}
use Rattle.independence.proofs.pairs.independent_pairs.Given as goal

abbrev pub invariant-loop-a : goal.invariant-loop-a
invariant-loop-a g l =
    vec_items l.pairs ++ related (g.I.Relation.relation l.rule) (pairs_from l.a (event_limit - l.a))
    ≡ independent_pairs (g.I.Relation.relation l.rule)
