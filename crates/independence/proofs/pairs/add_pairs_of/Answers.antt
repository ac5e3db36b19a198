use Rattle.std.proofs.Common.{vec_items, sym, ap, ◌∙◌, arith}
use Rattle.independence.specs.Pairing.{event_limit}
use Rattle.independence.proofs.Enumerating.{limit_is, of_taken, of_left, of_all}
use Rattle.independence.proofs.pairs.add_pairs_of.Goals as goal
use Rattle.independence.proofs.pairs.add_pairs_of.Goals.{then-independent+in_ok-push, else-independent}

pub loop-b-preserved : goal.loop-b-preserved
loop-b-preserved g c =
    let relation = g.I.Relation.relation c.args.rule.now in
    elim c.if-independent.branch [
      | then-independent+in_ok-push w ↦
          of_taken relation event_limit (vec_items c.loop-b.pairs) (vec_items c.if-independent.pairs) c.args.a c.loop-b.b
          (omega (arith, limit_is)) w.if-independent.ensures (let e = w.in_ok-push.ensures.items in cc (w.pairs-is, e))
          ∙ c.loop-b.invariant
      | else-independent w ↦
          of_left relation event_limit (vec_items c.loop-b.pairs) (vec_items c.if-independent.pairs) c.args.a c.loop-b.b
          (omega (arith, limit_is)) w.if-independent.ensures (ap vec_items w.pairs-is)
          ∙ c.loop-b.invariant
    ]

pub returns : goal.returns
returns g c =
    sym (of_all (g.I.Relation.relation c.args.rule.now) event_limit (vec_items c.loop-b.pairs) c.args.a c.loop-b.b (omega (arith, limit_is)))
    ∙ c.loop-b.invariant
