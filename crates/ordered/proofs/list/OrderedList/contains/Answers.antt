use Rattle.std.proofs.Common.{rules, ◌≡◌, Bool, Decides, subst}
use Rattle.std.specs.Set.{is_member}
use Rattle.ordered.specs.Insertion.{same_content, Holds}
use Rattle.ordered.specs.Lists.{members}
use Rattle.ordered.proofs.Contents.{member_decides}
use Rattle.ordered.proofs.list.OrderedList.contains.Goals as goal

pub returns-clause-decides : goal.returns-clause-decides
returns-clause-decides g c =
    let content = g.E.TotalOrder.content in
    let laws = g.met.E.TotalOrder in
    let x = c.args.x.now in
    let xs = members c.args.self.now in
    let e : is_member (same_content content g.E.TotalOrder.order) xs x ≡ c.is_ok.result = search rules in
    subst (λ (b : Bool). Decides b (Holds content (content x) xs)) e (member_decides content g.E.TotalOrder.order laws.same laws.converse laws.transitive x xs)
