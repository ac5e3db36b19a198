-- The processes of two events are apart: by the table and the pairs.
use Rattle.std.specs.Prelude.{◌≡◌, ℕ, ◌<◌, not, ◌&&◌, ◌⊎◌, List, length, Some, Ok, Decides, ◌==◌, ◌≢◌, nat_lt, refl}
use Rattle.std.proofs.Common.{ap, sym, ◌∙◌, arith}
use Rattle.std.proofs.lemmas.Bool.{cond-true, lt-ltb}
use Rattle.std.proofs.lemmas.Bool.Decides.{Decides-and, Decides-by_or, Decides-eqb, Decides-like, Decides-not, Decides-or}
use Rattle.std.proofs.lemmas.List.Elements.{Decides-contains}
use Rattle.std.specs.List.{Contains}
use Rattle.tables.specs.Entering.{Table}
use Rattle.tables.specs.Rowing.{row_of, process_of}
use Rattle.tables.specs.Tabling.{event_table}
use Rattle.tables.specs.Tabulating.{row_in}
use Rattle.independence.specs.Laws.{processes_symmetric, row_there, rows_events}
use Rattle.independence.specs.Parting.{has_pair, listed, parted_from, parted, apart_by_processes, ByPairs}

pair_same : (y x : ℕ × ℕ) → y.0 ≡ x.0 → y.1 ≡ x.1 → y ≡ x
pair_same (a, b) (c, d) h k = cc

module _ (pairs : List (ℕ × ℕ)) where
  has_decides : (p q : ℕ) → Decides (has_pair p q pairs) (Contains pairs (p, q))
  has_decides p q =
      Decides-contains pairs (p, q) (has_pair p q pairs)
      (Decides-by_or (λ x. x.0 == p && x.1 == q) (λ x. x ≡ (p, q)) (has_pair p q)
      (λ x. Decides-like (x.0 == p && x.1 == q)
      (λ h. pair_same x (p, q) h.0 h.1)
      (λ h. (ap (λ (z : ℕ × ℕ). z.0) h, ap (λ (z : ℕ × ℕ). z.1) h))
      (Decides-and (x.0 == p) (x.1 == q) (Decides-eqb x.0 p) (Decides-eqb x.1 q)))
      refl (λ _ _. refl) pairs)

  module _ (t : Table) where
    process_there : (a : ℕ) → a < length t.rows → process_of (row_of t.rows a) ≡ Some (row_in t a).process
    process_there a h = ap process_of (cond-true (nat_lt a (length t.rows)) _ _ (lt-ltb a (length t.rows) h))

    abbrev Apart : ℕ → ℕ → Type 0
    Apart p q = (p ≢ q) × (Contains pairs (p, q) ⊎ Contains pairs (q, p))

    apart_decides : (p q : ℕ) → Decides (parted_from pairs p (Some q)) (Apart p q)
    apart_decides p q =
        Decides-and (not (p == q)) (listed p q pairs) (Decides-not (p == q) (Decides-eqb p q))
        (Decides-or (has_pair p q pairs) (has_pair q p pairs) (has_decides p q) (has_decides q p))

    there_is : (a b : ℕ) → a < length t.rows → b < length t.rows
        → apart_by_processes t pairs a b ≡ parted_from pairs (row_in t a).process (Some (row_in t b).process)
    there_is a b h k =
        ap (λ o. parted pairs o (process_of (row_of t.rows b))) (process_there a h)
        ∙ ap (parted_from pairs (row_in t a).process) (process_there b k)

    module _ (text : List ℕ) (exact : ∥ event_table text ≡ Ok t ∥₁) where
      pub processes_by_pairs : ByPairs t pairs (apart_by_processes t pairs)
      processes_by_pairs a b = (
        λ e.
            let h = row_there pairs t a b e in
            let k = row_there pairs t b a (processes_symmetric pairs t b a ∙ e) in
            let m = (apart_decides (row_in t a).process (row_in t b).process).0 (sym (there_is a b h k) ∙ e) in
            (omega (arith, rows_events), omega (arith, rows_events), m.0, m.1),
        λ m.
            let h : a < length t.rows = omega (arith, rows_events t text exact, m.0) in
            let k : b < length t.rows = omega (arith, rows_events t text exact, m.1) in
            there_is a b h k ∙ (apart_decides (row_in t a).process (row_in t b).process).1 (m.2, m.3),
      )
