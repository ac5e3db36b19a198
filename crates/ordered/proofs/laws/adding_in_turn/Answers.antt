use Rattle.ordered.proofs.Contents.{in_turn}
use Rattle.ordered.proofs.laws.adding_in_turn.Goals as goal

pub returns : goal.returns
returns g c =
    let laws = g.met.E.TotalOrder in
    in_turn g.E.TotalOrder.content g.E.TotalOrder.order laws.same laws.converse laws.transitive
