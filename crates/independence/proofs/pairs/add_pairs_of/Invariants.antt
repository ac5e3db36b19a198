use Rattle.std.proofs.Common.{◌≡◌, ◌+◌, ◌-◌, ◌++◌, vec_items}
use Rattle.independence.specs.Pairing.{event_limit, pairs_of, related}
use Rattle.independence.proofs.pairs.add_pairs_of.Given as goal

abbrev pub invariant-loop-b : goal.invariant-loop-b
invariant-loop-b g l =
    vec_items l.pairs ++ related (g.I.Relation.relation l.rule) (pairs_of l.a l.b (event_limit - l.b))
    ≡ vec_items l.initial.pairs ++ related (g.I.Relation.relation l.rule) (pairs_of l.a (l.a + 1) (event_limit - (l.a + 1)))
