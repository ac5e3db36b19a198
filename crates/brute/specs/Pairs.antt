-- The relations of three events.
use Rattle.std.specs.Prelude.{◌≡◌, ℕ, ◌+◌, ◌<◌, Bool, true, false, cond, not, ◌&&◌, ◌==◌, nat_lt}
use Rattle.std.proofs.Common.{arith}
use Rattle.std.proofs.lemmas.Bool.Decides.{nat_tests}

-- two different events are told apart by their sum
abbrev pub paired : Bool → Bool → Bool → ℕ → ℕ → Bool
paired low outer high a b = (nat_lt a 3 && (nat_lt b 3 && not (a == b))) && cond (a + b == 1) low (cond (a + b == 2) outer high)

-- ── the laws of `Relation` ──

pub paired_irreflexive : (low outer high : Bool) (a : ℕ) → paired low outer high a a ≡ false
paired_irreflexive low outer high a = grind (arith, nat_tests)

pub paired_symmetric : (low outer high : Bool) (a b : ℕ) → paired low outer high a b ≡ paired low outer high b a
paired_symmetric low outer high a b = grind (arith, nat_tests)

pub paired_bounded : (low outer high : Bool) (a b : ℕ) → paired low outer high a b ≡ true → a < 64
paired_bounded low outer high a b e = grind (arith, nat_tests)
