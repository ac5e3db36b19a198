-- The order of pairs of numbers, as std has it: by the first number, and by the second where the first is the same.
use Rattle.std.proofs.Common.{◌≡◌, List, Decides, sym, ap, ◌∙◌}
use Rattle.std.specs.Prelude.{nat_eq}
use Rattle.std.specs.Cmp.{IsTotalOrder, tied_itself, on_total, then_total, both_tied, nat_cmp_total, unsigned_ties, unsigned_Decides, Equal-is, first_so, second_so}
use Rattle.std.specs.Ordering.{nat_cmp, eq_by_cmp}
use Rattle.std.specs.Set.{is_member}
use Rattle.tables.specs.Pairing.{Pair, pair_cmp, pair_eq}

pub pairs_total : IsTotalOrder pair_cmp
pairs_total = then_total (on_total (λ (p : Pair). p.0) nat_cmp_total) (on_total (λ (p : Pair). p.1) nat_cmp_total)

pub pairs_tie : (p q : Pair) → pair_eq p q ≡ eq_by_cmp pair_cmp p q
pairs_tie p q = both_tied _ _ (nat_cmp p.0 q.0) (nat_cmp p.1 q.1) (unsigned_ties p.0 q.0) (unsigned_ties p.1 q.1)

pub member_ties : (pairs : List Pair) (p : Pair) → is_member pair_eq pairs p ≡ is_member (eq_by_cmp pair_cmp) pairs p
member_ties pairs p i = is_member (λ x y. pairs_tie x y i) pairs p

-- pairs are equal by `==` exactly if they are the same
pub pairs_same : (p q : Pair) → Decides (pair_eq p q) (p ≡ q)
pairs_same p q = (
  λ e i. ((unsigned_Decides p.0 q.0).0 (first_so _ _ e) i, (unsigned_Decides p.1 q.1).0 (second_so (nat_eq p.0 q.0) _ e) i),
  λ e. pairs_tie p q ∙ (Equal-is (pair_cmp p q)).1 (ap (λ (r : Pair). pair_cmp p r) (sym e) ∙ tied_itself pairs_total p),
)
