-- The orders of numbers and of pairs of numbers.
use Rattle.std.specs.Prelude.{◌≡◌, ℕ, cond, ◌==◌, nat_lt}
use Rattle.std.specs.declared.cmp.Ordering.TheVariants.{Less, Equal, Greater}
use Rattle.std.specs.declared.cmp.Ordering.{Ordering}
use Rattle.std.specs.Ordering.{ordering_then, is_lt, is_gt}
use Rattle.std.specs.Cmp.{IsTotalOrder, nat_cmp_total, on_total, then_total}
use Rattle.std.specs.FinMap.{nat_cmp-IsAntisymmetric}
use Rattle.std.proofs.Common.{refl, ap}
use Rattle.std.proofs.lemmas.Bool.{true≢false}

abbrev pub number_order : ℕ → ℕ → Ordering
number_order a b = cond (nat_lt a b) Less (cond (a == b) Equal Greater)

-- by the first number, and by the second where the first is the same
abbrev pub pair_order : ℕ × ℕ → ℕ × ℕ → Ordering
pair_order p q = ordering_then (number_order p.0 q.0) (number_order p.1 q.1)

-- ── laws ──

pub numbers_total : IsTotalOrder number_order
numbers_total = nat_cmp_total

pub numbers_same : (a b : ℕ) → number_order a b ≡ Equal → a ≡ b
numbers_same = nat_cmp-IsAntisymmetric

pub pairs_total : IsTotalOrder pair_order
pairs_total = then_total (on_total (λ (p : ℕ × ℕ). p.0) numbers_total) (on_total (λ (p : ℕ × ℕ). p.1) numbers_total)

pub pairs_same : (p q : ℕ × ℕ) → pair_order p q ≡ Equal → p ≡ q
pairs_same p q = go (number_order p.0 q.0) (numbers_same p.0 q.0) (numbers_same p.1 q.1)
  where
    go : (o : Ordering) → (o ≡ Equal → p.0 ≡ q.0) → (number_order p.1 q.1 ≡ Equal → p.1 ≡ q.1) → ordering_then o (number_order p.1 q.1) ≡ Equal → p ≡ q
    go Less f g e = absurd (true≢false (ap is_lt e))
    go Equal f g e = λ i. (f refl i, g e i)
    go Greater f g e = absurd (true≢false (ap is_gt e))
