-- The derived equality and order of trees are those of the expressions that they stand for.
use Rattle.std.proofs.Common.{◌≡◌, ℕ, ◌≤◌, Less, Equal, Greater, ◌&&◌, sym, ◌∙◌, arith, lit≤}
use Rattle.std.specs.Cmp.{nat_cmp_is}
use Rattle.std.specs.Ordering.{nat_cmp, ordering_then}
use Rattle.traces.specs.Normal.{equal}
use Rattle.traces.specs.Order.{order, tree_order}
use Rattle.traces.proofs.Ordering.{order_by_parts, order_equal}
use Rattle.expressions.specs.Model.{model}
use Rattle.expressions.specs.declared.events.Event.{Event as Number}
use Rattle.expressions.specs.declared.expr.Expr.{Expr}
use Rattle.expressions.specs.declared.expr.Expr.TheVariants.{Event, One, Zero, Sum', Cat', Star'}
use Rattle.expressions.specs.contracts.expr.ExprPartialEq.TheImpl.{ghosts as partial_eq}
use Rattle.expressions.specs.contracts.expr.ExprPartialEq.TheImpl.Laws.{is as eq_by_parts}
use Rattle.expressions.specs.contracts.expr.ExprOrd.TheImpl.{ghosts as ord}
use Rattle.expressions.specs.contracts.expr.ExprOrd.TheImpl.Laws.{is as cmp_by_parts}
use Rattle.expressions.proofs.Bounds.{events_below}

pub eq_is_equal : (e f : Expr) → partial_eq.eq e f ≡ equal (model e) (model f)
eq_is_equal (Sum' p a q b) (Sum' r c s d) =
    eq_by_parts (Sum' p a q b) (Sum' r c s d) ∙ (λ i. eq_is_equal a c i && eq_is_equal b d i)
eq_is_equal (Cat' p a q b) (Cat' r c s d) =
    eq_by_parts (Cat' p a q b) (Cat' r c s d) ∙ (λ i. eq_is_equal a c i && eq_is_equal b d i)
eq_is_equal (Star' p a) (Star' r c) = eq_by_parts (Star' p a) (Star' r c) ∙ eq_is_equal a c
eq_is_equal (Event b) (Event c) = eq_by_parts (Event b) (Event c)
eq_is_equal One One = eq_by_parts One One
eq_is_equal Zero Zero = eq_by_parts Zero Zero
eq_is_equal e (Event c) = eq_by_parts e (Event c)
eq_is_equal e One = eq_by_parts e One
eq_is_equal e (Sum' p c q d) = eq_by_parts e (Sum' p c q d)
eq_is_equal e (Cat' p c q d) = eq_by_parts e (Cat' p c q d)
eq_is_equal e (Star' p c) = eq_by_parts e (Star' p c)
eq_is_equal e Zero = eq_by_parts e Zero

-- an event stands before every other symbol
event_first : (b : Number) (n : ℕ) → 64 ≤ n → Less ≡ nat_cmp b.number n
event_first b n h = nat_cmp_is b.number n Less (omega (arith, b.small))

event_last : (b : Number) (n : ℕ) → 64 ≤ n → Greater ≡ nat_cmp n b.number
event_last b n h = nat_cmp_is n b.number Greater (omega (arith, b.small))

cmp_is_tree_order : (e f : Expr) → ord.cmp e f ≡ tree_order (model e) (model f)
cmp_is_tree_order (Event b) (Event c) = cmp_by_parts (Event b) (Event c)
cmp_is_tree_order (Event b) One = cmp_by_parts (Event b) One ∙ event_first b 64 (lit≤ tt)
cmp_is_tree_order (Event b) (Sum' p c q d) = cmp_by_parts (Event b) (Sum' p c q d) ∙ event_first b 65 (lit≤ tt)
cmp_is_tree_order (Event b) (Cat' p c q d) = cmp_by_parts (Event b) (Cat' p c q d) ∙ event_first b 66 (lit≤ tt)
cmp_is_tree_order (Event b) (Star' p c) = cmp_by_parts (Event b) (Star' p c) ∙ event_first b 67 (lit≤ tt)
cmp_is_tree_order (Event b) Zero = cmp_by_parts (Event b) Zero ∙ event_first b 68 (lit≤ tt)
cmp_is_tree_order One (Event c) = cmp_by_parts One (Event c) ∙ event_last c 64 (lit≤ tt)
cmp_is_tree_order (Sum' p a q b) (Event c) = cmp_by_parts (Sum' p a q b) (Event c) ∙ event_last c 65 (lit≤ tt)
cmp_is_tree_order (Cat' p a q b) (Event c) = cmp_by_parts (Cat' p a q b) (Event c) ∙ event_last c 66 (lit≤ tt)
cmp_is_tree_order (Star' p a) (Event c) = cmp_by_parts (Star' p a) (Event c) ∙ event_last c 67 (lit≤ tt)
cmp_is_tree_order Zero (Event c) = cmp_by_parts Zero (Event c) ∙ event_last c 68 (lit≤ tt)
cmp_is_tree_order (Sum' p a q b) (Sum' r c s d) =
    cmp_by_parts (Sum' p a q b) (Sum' r c s d) ∙ (λ i. ordering_then (cmp_is_tree_order a c i) (cmp_is_tree_order b d i))
cmp_is_tree_order (Cat' p a q b) (Cat' r c s d) =
    cmp_by_parts (Cat' p a q b) (Cat' r c s d) ∙ (λ i. ordering_then (cmp_is_tree_order a c i) (cmp_is_tree_order b d i))
cmp_is_tree_order (Star' p a) (Star' r c) = cmp_by_parts (Star' p a) (Star' r c) ∙ cmp_is_tree_order a c
cmp_is_tree_order e One = cmp_by_parts e One
cmp_is_tree_order e (Sum' p c q d) = cmp_by_parts e (Sum' p c q d)
cmp_is_tree_order e (Cat' p c q d) = cmp_by_parts e (Cat' p c q d)
cmp_is_tree_order e (Star' p c) = cmp_by_parts e (Star' p c)
cmp_is_tree_order e Zero = cmp_by_parts e Zero

pub cmp_is_order : (e f : Expr) → ord.cmp e f ≡ order (model e) (model f)
cmp_is_order e f =
    cmp_is_tree_order e f ∙ sym (order_by_parts (model e) (model f) (events_below e) (events_below f))

-- only trees of one expression tie
pub ties_are_one : (e f : Expr) → ord.cmp e f ≡ Equal → model e ≡ model f
ties_are_one e f h = order_equal.1 (model e) (model f) (events_below e) (events_below f) (sym (cmp_is_order e f) ∙ h)
