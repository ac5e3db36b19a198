-- A list that was built in order rises, and has the same members.
use Rattle.std.proofs.Common.{◌≡◌, ℕ, true, ◌⊎◌, List, [], ◌∷◌, Ordering, Less, Equal, Greater, sym, ap, ◌∙◌, subst, inl, inr, ⊎_elim}
use Rattle.std.specs.Cmp.{Equal-is}
use Rattle.std.specs.Cmp.Lexicographic.{slice_cmp}
use Rattle.std.specs.FinMap.{nat_cmp-IsAntisymmetric, slice_cmp-IsAntisymmetric}
use Rattle.std.proofs.lemmas.Cmp.{nat_list_cmp_total}
use Rattle.std.specs.Ordering.{match_ordering, eq_by_cmp, is_eq, nat_cmp}
use Rattle.std.specs.List.Sorted.{IsStrictlySortedBy}
use Rattle.ordered.specs.Insertion.{InTurn}
use Rattle.ordered.proofs.Contents.{in_turn}
use Rattle.traces.specs.Members.{Member}
use Rattle.traces.specs.Words.{Rel}
use Rattle.traces.specs.Expressions.{Exp, EventsBelow}
use Rattle.traces.specs.Order.{symbols, order}
use Rattle.traces.specs.Derivatives.{next}
use Rattle.traces.proofs.Lists.{member_unmap}
use Rattle.traces.proofs.Events.{events_stay_below}
use Rattle.traces.proofs.Ordering.{order_total, order_equal}
use Rattle.traces.proofs.Sets.{next_out}
use Rattle.expressions.specs.Model.{model, models}
use Rattle.expressions.specs.declared.expr.Expr.{Expr}
use Rattle.expressions.proofs.Bounds.{events_below}
use Rattle.sets.specs.Sets.{insert, insert_each, sorted, SameMembers}
use Rattle.sets.proofs.Searching.{some_decides}

built : (Es : List Exp) → InTurn symbols (slice_cmp nat_cmp) Es
built Es =
    let o = nat_list_cmp_total in
    in_turn symbols (slice_cmp nat_cmp) (slice_cmp-IsAntisymmetric nat_cmp-IsAntisymmetric) (λ a b. o.antisymm b a) o.trans Es

pub sorted_rises : (Es : List Exp) → IsStrictlySortedBy order (sorted Es)
sorted_rises Es = (built Es).rising

-- ── members ──

from_insert : (E : Exp) (Es : List Exp) (F : Exp) → Member F (insert E Es) → Member F Es ⊎ (F ≡ E)
from_insert E [] F m = ⊎_elim inr absurd m
from_insert E (G ∷ Gs) F m = go (order E G) (from_insert E Gs F) m
  where
    go : (o : Ordering) → (Member F (insert E Gs) → Member F Gs ⊎ (F ≡ E))
        → Member F (match_ordering o (E ∷ G ∷ Gs) (G ∷ Gs) (G ∷ insert E Gs)) → Member F (G ∷ Gs) ⊎ (F ≡ E)
    go Less below k = ⊎_elim inr inl k
    go Equal below k = inl k
    go Greater below k = ⊎_elim (λ q. inl (inl q)) (λ n. ⊎_elim (λ p. inl (inr p)) inr (below n)) k

from_each : (Fs Es : List Exp) (F : Exp) → Member F (insert_each Fs Es) → Member F Es ⊎ Member F Fs
from_each [] Es F m = inl m
from_each (G ∷ Fs) Es F m =
    ⊎_elim (λ k. ⊎_elim inl (λ q. inr (inl q)) (from_insert G Es F k)) (λ k. inr (inr k)) (from_each Fs (insert G Es) F m)

sorted_same : (Es : List Exp) → ((E : Exp) → Member E Es → EventsBelow 64 E) → SameMembers (sorted Es) Es
sorted_same Es below = (within, λ E m. back E m)
  where
    within : (F : Exp) → Member F (sorted Es) → Member F Es
    within F m = ⊎_elim absurd (λ k. k) (from_each Es [] F m)

    -- the member with the symbols of E is E
    back : (E : Exp) → Member E Es → Member E (sorted Es)
    back E m =
        let like : eq_by_cmp order E E ≡ true = ap is_eq (order_total.0 E) in
        let found = (built Es).members E ∙ (some_decides (eq_by_cmp order E) Es).1 (E, m, like) in
        let s = (some_decides (eq_by_cmp order E) (sorted Es)).0 found in
        subst (λ F. Member F (sorted Es)) (sym (order_equal.1 E s.0 (below E m) (below s.0 (within s.0 s.1)) ((Equal-is (order E s.0)).0 s.2))) s.1

next_below : (rel : Rel) (a : ℕ) (es : List Expr) (F : Exp) → Member F (next rel a (models es)) → EventsBelow 64 F
next_below rel a es F m =
    let s = next_out rel a F (models es) m in
    let e = member_unmap model s.0 es s.1 in
    events_stay_below.5 64 rel a s.0 F (subst (EventsBelow 64) (sym e.2) (events_below e.0)) s.2

pub next_same : (rel : Rel) (a : ℕ) (es : List Expr) → SameMembers (sorted (next rel a (models es))) (next rel a (models es))
next_same rel a es = sorted_same (next rel a (models es)) (next_below rel a es)
