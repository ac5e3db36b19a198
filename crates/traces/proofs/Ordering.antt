-- The order by symbols is a total order of the expressions with events below 64, and can be found part by part.
use Rattle.std.proofs.Common.{◌≡◌, ℕ, suc, ◌+◌, ◌<◌, ◌≤◌, List, [], ◌∷◌, ◌++◌, length, Ordering, Less, Equal, Greater, sym, refl, ap, ◌∙◌, true≢false, append_assoc, append-nil, arith, lit≤, length-append}
use Rattle.std.specs.Cmp.{nat_cmp_total}
use Rattle.std.specs.Cmp.Lexicographic.{slice_cmp, lists_total}
use Rattle.std.specs.FinMap.{nat_cmp-IsAntisymmetric, slice_cmp-IsAntisymmetric}
use Rattle.std.specs.Ordering.{is_lt, is_gt, ordering_then, nat_cmp}
use Rattle.std.proofs.lemmas.Bool.Decides.{nat_tests}
use Rattle.traces.specs.Expressions.{Exp, event, one, zero, sum, cat, star, EventsBelow}
use Rattle.traces.specs.Order.{symbols, size, tree_order}
use Rattle.traces.specs.Theorems.{SizeCountsSymbols, OrderTotal, OrderEqual, OrderByParts}

-- ── size ──

size_both : (s t : List ℕ) (m n : ℕ) → m ≡ length s → n ≡ length t → 1 + m + n ≡ suc (length (s ++ t))
size_both s t m n e f = simp length-append (omega arith)

size_star : (s : List ℕ) (m : ℕ) → m ≡ length s → 1 + m ≡ suc (length s)
size_star s m e = omega arith

pub size_counts_symbols : SizeCountsSymbols
size_counts_symbols (event b) = refl
size_counts_symbols one = refl
size_counts_symbols zero = refl
size_counts_symbols (sum E F) =
    size_both (symbols E) (symbols F) (size E) (size F) (size_counts_symbols E) (size_counts_symbols F)
size_counts_symbols (cat E F) =
    size_both (symbols E) (symbols F) (size E) (size F) (size_counts_symbols E) (size_counts_symbols F)
size_counts_symbols (star E) = size_star (symbols E) (size E) (size_counts_symbols E)

-- ── the order of numbers and of lists ──

rank_less : (m n : ℕ) → m < n → nat_cmp m n ≡ Less
rank_less m n h = grind (arith, nat_tests)

rank_greater : (m n : ℕ) → n < m → nat_cmp m n ≡ Greater
rank_greater m n h = grind (arith, nat_tests)

less≢equal : Less ≡ Equal → ⊥
less≢equal e = true≢false (ap is_lt e)

greater≢equal : Greater ≡ Equal → ⊥
greater≢equal e = true≢false (ap is_gt e)

then_parts : (o p : Ordering) → ordering_then o p ≡ Equal → (o ≡ Equal) × (p ≡ Equal)
then_parts Less p e = absurd (less≢equal e)
then_parts Equal p e = (refl, e)
then_parts Greater p e = absurd (greater≢equal e)

rank_same : (m : ℕ) → nat_cmp m m ≡ Equal
rank_same m = grind (arith, nat_tests)

lex_self : (s : List ℕ) → slice_cmp nat_cmp s s ≡ Equal
lex_self [] = refl
lex_self (x ∷ s) = ap (λ o. ordering_then o (slice_cmp nat_cmp s s)) (rank_same x) ∙ lex_self s

pub order_total : OrderTotal
order_total = (
  λ E. lex_self (symbols E),
  λ E F. (lists_total nat_cmp_total).antisymm (symbols E) (symbols F),
  λ E F G. (lists_total nat_cmp_total).trans (symbols E) (symbols F) (symbols G),
  λ E F G. (lists_total nat_cmp_total).congr (symbols E) (symbols F) (symbols G),
)

-- ── part by part ──

then_assoc : (o p q : Ordering) → ordering_then (ordering_then o p) q ≡ ordering_then o (ordering_then p q)
then_assoc Less p q = refl
then_assoc Equal p q = refl
then_assoc Greater p q = refl

then_equal : (o : Ordering) → ordering_then o Equal ≡ o
then_equal Less = refl
then_equal Equal = refl
then_equal Greater = refl

-- two parts in front of what follows
both : (A B C D : Exp) (s t : List ℕ)
    → ((s t : List ℕ) → slice_cmp nat_cmp (symbols A ++ s) (symbols C ++ t) ≡ ordering_then (tree_order A C) (slice_cmp nat_cmp s t))
    → ((s t : List ℕ) → slice_cmp nat_cmp (symbols B ++ s) (symbols D ++ t) ≡ ordering_then (tree_order B D) (slice_cmp nat_cmp s t))
    → slice_cmp nat_cmp ((symbols A ++ symbols B) ++ s) ((symbols C ++ symbols D) ++ t)
    ≡ ordering_then (ordering_then (tree_order A C) (tree_order B D)) (slice_cmp nat_cmp s t)
both A B C D s t first second =
    (λ i. slice_cmp nat_cmp (append_assoc (symbols A) (symbols B) s i) (append_assoc (symbols C) (symbols D) t i))
    ∙ first (symbols B ++ s) (symbols D ++ t)
    ∙ ap (λ o. ordering_then (tree_order A C) o) (second s t)
    ∙ sym (then_assoc (tree_order A C) (tree_order B D) (slice_cmp nat_cmp s t))

-- what follows two prefix forms is compared only where they are the same
followed : (E F : Exp) → EventsBelow 64 E → EventsBelow 64 F → (s t : List ℕ)
    → slice_cmp nat_cmp (symbols E ++ s) (symbols F ++ t) ≡ ordering_then (tree_order E F) (slice_cmp nat_cmp s t)
followed (event b) (event c) h k s t = refl
followed (event b) one h k s t = refl
followed (event b) zero h k s t = refl
followed (event b) (sum C D) h k s t = rw (rank_less b 65 (omega arith)) refl
followed (event b) (cat C D) h k s t = rw (rank_less b 66 (omega arith)) refl
followed (event b) (star C) h k s t = rw (rank_less b 67 (omega arith)) refl
followed one (event c) h k s t = refl
followed one one h k s t = refl
followed one zero h k s t = refl
followed one (sum C D) h k s t = refl
followed one (cat C D) h k s t = refl
followed one (star C) h k s t = refl
followed zero (event c) h k s t = refl
followed zero one h k s t = refl
followed zero zero h k s t = refl
followed zero (sum C D) h k s t = refl
followed zero (cat C D) h k s t = refl
followed zero (star C) h k s t = refl
followed (sum A B) (event c) h k s t = rw (rank_greater 65 c (omega arith)) refl
followed (sum A B) one h k s t = refl
followed (sum A B) zero h k s t = refl
followed (sum A B) (sum C D) h k s t = both A B C D s t (followed A C h.0 k.0) (followed B D h.1 k.1)
followed (sum A B) (cat C D) h k s t = refl
followed (sum A B) (star C) h k s t = refl
followed (cat A B) (event c) h k s t = rw (rank_greater 66 c (omega arith)) refl
followed (cat A B) one h k s t = refl
followed (cat A B) zero h k s t = refl
followed (cat A B) (sum C D) h k s t = refl
followed (cat A B) (cat C D) h k s t = both A B C D s t (followed A C h.0 k.0) (followed B D h.1 k.1)
followed (cat A B) (star C) h k s t = refl
followed (star A) (event c) h k s t = rw (rank_greater 67 c (omega arith)) refl
followed (star A) one h k s t = refl
followed (star A) zero h k s t = refl
followed (star A) (sum C D) h k s t = refl
followed (star A) (cat C D) h k s t = refl
followed (star A) (star C) h k s t = followed A C h k s t

pub order_by_parts : OrderByParts
order_by_parts E F h k =
    sym (λ i. slice_cmp nat_cmp (append-nil (symbols E) i) (append-nil (symbols F) i))
    ∙ followed E F h k [] []
    ∙ then_equal (tree_order E F)

-- ── equal expressions ──

-- an event is no other symbol
event_first : (b n : ℕ) → b < 64 → 64 ≤ n → nat_cmp b n ≡ Equal → ⊥
event_first b n h k e = omega (arith, nat_cmp-IsAntisymmetric b n e)

event_second : (n c : ℕ) → c < 64 → 64 ≤ n → nat_cmp n c ≡ Equal → ⊥
event_second n c h k e = omega (arith, nat_cmp-IsAntisymmetric n c e)

tree_equal : (E F : Exp) → EventsBelow 64 E → EventsBelow 64 F → tree_order E F ≡ Equal → E ≡ F
tree_equal (event b) (event c) h k e = ap (λ n. event n) (nat_cmp-IsAntisymmetric b c e)
tree_equal (event b) one h k e = absurd (event_first b 64 h (lit≤ tt) e)
tree_equal (event b) zero h k e = absurd (event_first b 68 h (lit≤ tt) e)
tree_equal (event b) (sum C D) h k e = absurd (event_first b 65 h (lit≤ tt) e)
tree_equal (event b) (cat C D) h k e = absurd (event_first b 66 h (lit≤ tt) e)
tree_equal (event b) (star C) h k e = absurd (event_first b 67 h (lit≤ tt) e)
tree_equal one (event c) h k e = absurd (event_second 64 c k (lit≤ tt) e)
tree_equal one one h k e = refl
tree_equal one zero h k e = absurd (less≢equal e)
tree_equal one (sum C D) h k e = absurd (less≢equal e)
tree_equal one (cat C D) h k e = absurd (less≢equal e)
tree_equal one (star C) h k e = absurd (less≢equal e)
tree_equal zero (event c) h k e = absurd (event_second 68 c k (lit≤ tt) e)
tree_equal zero one h k e = absurd (greater≢equal e)
tree_equal zero zero h k e = refl
tree_equal zero (sum C D) h k e = absurd (greater≢equal e)
tree_equal zero (cat C D) h k e = absurd (greater≢equal e)
tree_equal zero (star C) h k e = absurd (greater≢equal e)
tree_equal (sum A B) (event c) h k e = absurd (event_second 65 c k (lit≤ tt) e)
tree_equal (sum A B) one h k e = absurd (greater≢equal e)
tree_equal (sum A B) zero h k e = absurd (less≢equal e)
tree_equal (sum A B) (sum C D) h k e =
    let f = then_parts (tree_order A C) (tree_order B D) e in
    λ i. sum (tree_equal A C h.0 k.0 f.0 i) (tree_equal B D h.1 k.1 f.1 i)
tree_equal (sum A B) (cat C D) h k e = absurd (less≢equal e)
tree_equal (sum A B) (star C) h k e = absurd (less≢equal e)
tree_equal (cat A B) (event c) h k e = absurd (event_second 66 c k (lit≤ tt) e)
tree_equal (cat A B) one h k e = absurd (greater≢equal e)
tree_equal (cat A B) zero h k e = absurd (less≢equal e)
tree_equal (cat A B) (sum C D) h k e = absurd (greater≢equal e)
tree_equal (cat A B) (cat C D) h k e =
    let f = then_parts (tree_order A C) (tree_order B D) e in
    λ i. cat (tree_equal A C h.0 k.0 f.0 i) (tree_equal B D h.1 k.1 f.1 i)
tree_equal (cat A B) (star C) h k e = absurd (less≢equal e)
tree_equal (star A) (event c) h k e = absurd (event_second 67 c k (lit≤ tt) e)
tree_equal (star A) one h k e = absurd (greater≢equal e)
tree_equal (star A) zero h k e = absurd (less≢equal e)
tree_equal (star A) (sum C D) h k e = absurd (greater≢equal e)
tree_equal (star A) (cat C D) h k e = absurd (greater≢equal e)
tree_equal (star A) (star C) h k e = ap (λ E. star E) (tree_equal A C h k e)

pub order_equal : OrderEqual
order_equal = (
  λ E F e. slice_cmp-IsAntisymmetric nat_cmp-IsAntisymmetric (symbols E) (symbols F) e,
  λ E F h k e. tree_equal E F h k (sym (order_by_parts E F h k) ∙ e),
)
