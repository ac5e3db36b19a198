use Rattle.std.proofs.Common.{rules, List, refl, subst}
use Rattle.std.proofs.lemmas.Fn.{always_returns_same}
use Rattle.ordered.specs.Insertion.{by_content, same_content, Placed}
use Rattle.ordered.proofs.Contents.{total}
use Rattle.ordered.proofs.Placing.{placed}
use Rattle.ordered.proofs.list.OrderedList.search.Goals as goal

pub returns : goal.returns
returns g c =
    let content = g.E.TotalOrder.content in
    let order = g.E.TotalOrder.order in
    let laws = g.met.E.TotalOrder in
    let cmp = by_content content order in
    let x = c.args.x.now in
    let r = c.binary_search_by.result in
    let found = c.binary_search_by.ensures in
    let at = found.position (λ y. cmp y x) (always_returns_same _ _ _ (λ a r f' k. search rules)) in
    subst (λ (xs : List _). Placed (same_content content order) cmp x xs r) c.members.ensures.all
    (placed (total content order laws.same laws.converse laws.transitive) (λ p q. refl) x c.members.result.now r c.members.ensures.rises found.bound at)
