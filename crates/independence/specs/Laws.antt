-- Why each kind of independence keeps the laws of `Relation`.
use Rattle.std.specs.Prelude.{◌≡◌, ℕ, ◌<◌, Bool, true, false, not, ◌&&◌, List, [], ◌∷◌, length, Some, None, Ok, Option, nat_lt, ◌==◌, refl}
use Rattle.std.specs.List.{list_any, range_with_len}
use Rattle.std.proofs.Common.{ap, sym, arith}
use Rattle.std.proofs.Math.Bool.{or_comm}
use mathlib.Core.HLevel.{hedberg}
use Rattle.std.proofs.Math.Logic.{∥∥₁_elim}
use Rattle.std.proofs.Math.Bridge.{le_prop}
use Rattle.std.proofs.Math.Decide.{ℕ_discrete}
use Rattle.std.proofs.lemmas.Bool.{and_parts, cond_both, eq-eqb, false≢true, ltb-true}
use Rattle.std.proofs.lemmas.Bool.Decides.{Decides-eqb, Decides-like, same_from_decides}
use Rattle.tables.specs.Entering.{Table}
use Rattle.tables.specs.Rowing.{row_of, process_of}
use Rattle.tables.specs.Tabling.{event_table}
use Rattle.tables.proofs.Tabulated.{table_says, events_few}
use Rattle.independence.specs.Footprint.{disturbs, clash_on, apart_by_cells}
use Rattle.independence.specs.Parting.{has_pair, parted, apart_by_processes}

-- ── by cells ──

-- two tests and what they leave out, the other way round
turned : (p q e f c d : Bool) → e ≡ f → c ≡ d → (p && (q && (not e && not c))) ≡ (q && (p && (not f && not d)))
turned true true e f c d h k = cc
turned true false e f c d h k = refl
turned false true e f c d h k = refl
turned false false e f c d h k = refl

eqb_turned : (a b : ℕ) → (a == b) ≡ (b == a)
eqb_turned a b = same_from_decides (a == b) (b == a) (Decides-eqb a b) (Decides-like (b == a) sym sym (Decides-eqb b a))

module _ (t : Table) (a b : ℕ) where
  any_turned : (cs : List ℕ) → list_any (clash_on t a b) cs ≡ list_any (clash_on t b a) cs
  any_turned [] = refl
  any_turned (c ∷ cs) =
      let e = or_comm (disturbs t a b c) (disturbs t b a c) in
      let r = any_turned cs in
      cc

  pub cells_irreflexive : a ≡ b → apart_by_cells t a b ≡ false
  cells_irreflexive e = let s = eq-eqb a b e in grind arith

  pub cells_symmetric : apart_by_cells t a b ≡ apart_by_cells t b a
  cells_symmetric =
      turned (nat_lt a (length t.events)) (nat_lt b (length t.events)) _ _ _ _ (eqb_turned a b) (any_turned (range_with_len 0 (length t.cells)))

  cells_known : apart_by_cells t a b ≡ true → a < length t.events
  cells_known e = ltb-true a (length t.events) (and_parts (nat_lt a (length t.events)) _ e).0

  -- a table has at most 64 events
  pub cells_bounded : (text : List ℕ) → ∥ event_table text ≡ Ok t ∥₁ → apart_by_cells t a b ≡ true → a < 64
  cells_bounded text exact e =
      let h = cells_known e in ∥∥₁_elim exact le_prop (λ is. omega (arith, events_few text t is))

-- ── by processes ──

-- a row for each event
pub rows_events : (t : Table) (text : List ℕ) → ∥ event_table text ≡ Ok t ∥₁ → length t.rows ≡ length t.events
rows_events t text exact = ∥∥₁_elim exact (hedberg ℕ_discrete _ _) (λ is. (table_says text t is).1.rows)

module _ (pairs : List (ℕ × ℕ)) where
  parted_itself : (o : Option ℕ) → parted pairs o o ≡ false
  parted_itself None = refl
  parted_itself (Some p) = let e = eq-eqb p p refl in grind arith

  parted_turned : (o u : Option ℕ) → parted pairs o u ≡ parted pairs u o
  parted_turned None None = refl
  parted_turned None (Some q) = refl
  parted_turned (Some p) None = refl
  parted_turned (Some p) (Some q) =
      let e = eqb_turned p q in
      let h = or_comm (has_pair p q pairs) (has_pair q p pairs) in
      cc

  module _ (t : Table) where
    pub processes_irreflexive : (a : ℕ) → apart_by_processes t pairs a a ≡ false
    processes_irreflexive a = parted_itself (process_of (row_of t.rows a))

    pub processes_symmetric : (a b : ℕ) → apart_by_processes t pairs a b ≡ apart_by_processes t pairs b a
    processes_symmetric a b = parted_turned (process_of (row_of t.rows a)) (process_of (row_of t.rows b))

    -- only what has a row has a process
    pub row_there : (a b : ℕ) → apart_by_processes t pairs a b ≡ true → a < length t.rows
    row_there a b =
        cond_both (nat_lt a (length t.rows)) _ _
        (λ o. parted pairs (process_of o) (process_of (row_of t.rows b)) ≡ true → a < length t.rows)
        (λ h _. ltb-true a (length t.rows) h) (λ _ e. absurd (false≢true e))

    pub processes_bounded : (text : List ℕ) → ∥ event_table text ≡ Ok t ∥₁ → (a b : ℕ) → apart_by_processes t pairs a b ≡ true → a < 64
    processes_bounded text exact a b e =
        let h = row_there a b e in
        ∥∥₁_elim exact le_prop (λ is. omega (arith, rows_events t text exact, events_few text t is))

-- ── by both of two, by none ──

pub both_irreflexive : (p q : Bool) → p ≡ false → (p && q) ≡ false
both_irreflexive p q e = ap (λ b. b && q) e

pub both_symmetric : (p q r s : Bool) → p ≡ r → q ≡ s → (p && q) ≡ (r && s)
both_symmetric p q r s e f = cc

pub both_bounded : (p q : Bool) (a : ℕ) → (p ≡ true → a < 64) → (p && q) ≡ true → a < 64
both_bounded p q a h e = h (and_parts p q e).0

pub never_bounded : (a : ℕ) → false ≡ true → a < 64
never_bounded a e = absurd (false≢true e)
