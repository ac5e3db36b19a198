use Rattle.std.proofs.Common.{◌≡◌, vec_items, sym, ◌∙◌, subst, arith}
use Rattle.independence.specs.Pairing.{event_limit, Exactly, independent_pairs}
use Rattle.independence.proofs.Enumerating.{limit_is, from_more, from_all, pairs_exactly}
use Rattle.independence.proofs.pairs.independent_pairs.Goals as goal

pub loop-a-preserved : goal.loop-a-preserved
loop-a-preserved g c =
    from_more (g.I.Relation.relation c.args.rule.now) event_limit (vec_items c.loop-a.pairs) (vec_items c.add_pairs_of.new.pairs)
    c.loop-a.a (omega (arith, limit_is)) c.in_ok-add_pairs_of.ensures
    ∙ c.loop-a.invariant

pub returns : goal.returns
returns g c =
    let relation = g.I.Relation.relation c.args.rule.now in
    let e : vec_items c.loop-a.pairs ≡ independent_pairs relation =
    sym (from_all relation event_limit (vec_items c.loop-a.pairs) c.loop-a.a (omega (arith, limit_is))) ∙ c.loop-a.invariant in
    record {
      list = e;
      exactly =
          subst (Exactly relation) (sym e)
          (pairs_exactly relation (g.I.Relation.symmetric c.args.rule.now) (g.I.Relation.bounded c.args.rule.now));
    }
