-- Two events clash on a cell: by the table, and by the records of its text.
use Rattle.std.specs.Prelude.{◌≡◌, ℕ, zero, suc, ◌+◌, ◌<◌, ◌≤◌, Bool, true, not, ◌||◌, ◌⊎◌, List, length, Decides, ◌==◌, nat_lt}
use Rattle.std.specs.List.{list_any, range_with_len}
use Rattle.std.proofs.Common.{ap, sym, subst, inl, inr, arith}
use Rattle.lines.specs.declared.field.Field.{Field}
use Rattle.std.proofs.lemmas.Bool.{and_from, and_parts, cases_eq, cond-true, false≢true, lt-ltb, ltb-true}
use Rattle.std.proofs.lemmas.Bool.Decides.{Decides-and, Decides-at, Decides-like, Decides-eqb, Decides-not, Decides-or}
use Rattle.tables.specs.declared.row.Access.{Access}
use Rattle.tables.specs.declared.row.Access.TheVariants.{Read, Write}
use Rattle.tables.specs.Entering.{Table}
use Rattle.tables.specs.Rowing.{lists, lists_at}
use Rattle.tables.specs.Tabulating.{Lists, Tabulates, name_in, row_in}
use Rattle.tables.proofs.Listed.{cell_known}
use Rattle.independence.specs.Footprint.{row_lists, clash_on, clash, apart_by_cells, Disturbs, Undisturbed, ByRecords}

-- one of the n numbers from k on passes the test
abbrev Passes : (ℕ → Bool) → ℕ → ℕ → Type 0
Passes p k n = (c : ℕ) × ((k ≤ c) × (c < k + n)) × (p c ≡ true)

module _ (p : ℕ → Bool) where
  first_or_later : (k n : ℕ) → (p k ≡ true) ⊎ Passes p (k + 1) n → Passes p k (suc n)
  first_or_later k n (inl e) = (k, (omega arith, omega arith), e)
  first_or_later k n (inr w) = (w.0, (omega (arith, w.1.0), omega (arith, w.1.1)), w.2)

  which_passes : (k n : ℕ) → Passes p k (suc n) → (p k ≡ true) ⊎ Passes p (k + 1) n
  which_passes k n w =
      elim (cases_eq w.0 k) [
        | inl e ↦ inl (subst (λ c. p c ≡ true) e w.2)
        | inr d ↦ inr (w.0, (omega (arith, w.1.0), omega (arith, w.1.1)), w.2)
      ]

  any_decides : (k n : ℕ) → Decides (list_any p (range_with_len k n)) (Passes p k n)
  any_decides k zero = (λ e. absurd (false≢true e), λ w. absurd (omega (arith, w.1.0, w.1.1)))
  any_decides k (suc n) =
      Decides-like (p k || list_any p (range_with_len (k + 1) n)) (first_or_later k n) (which_passes k n)
      (Decides-or (p k) _ (λ e. e, λ e. e) (any_decides (k + 1) n))

module _ (t : Table) (a b : ℕ) where
  clash_known : Decides (clash t a b) ((c : ℕ) × (c < length t.cells) × (clash_on t a b c ≡ true))
  clash_known =
      Decides-like (clash t a b) (λ w. (w.0, omega (arith, w.1.1), w.2)) (λ w. (w.0, (omega arith, omega (arith, w.1)), w.2))
      (any_decides (clash_on t a b) 0 (length t.cells))

module _ (text : List ℕ) (rs : List (List Field)) (t : Table) (tab : Tabulates text rs t) where
  -- a row lists what the records of its event list
  module _ (access : Access) (e : ℕ) (h : e < length t.events) where
    row_there : (c : ℕ) → row_lists t access e c ≡ lists access c (row_in t e)
    row_there c =
        let k : e < length t.rows = omega (arith, tab.rows) in
        ap (lists_at access c) (cond-true (nat_lt e (length t.rows)) _ _ (lt-ltb e (length t.rows) k))

    row_lists_lem : (c : ℕ) → c < length t.cells → Decides (row_lists t access e c) (Lists text access (name_in text t.events e) (name_in text t.cells c) rs)
    row_lists_lem c k = Decides-at _ _ (row_there c) (tab.listed access e c h k)

  module _ (a b : ℕ) (h : a < length t.events) (k : b < length t.events) where
    abbrev Clashes : List ℕ → Type 0
    Clashes cell =
        Disturbs text rs (name_in text t.events a) (name_in text t.events b) cell
        ⊎ Disturbs text rs (name_in text t.events b) (name_in text t.events a) cell

    clash_decides : (c : ℕ) → c < length t.cells → Decides (clash_on t a b c) (Clashes (name_in text t.cells c))
    clash_decides c l =
        Decides-or _ _
        (Decides-and _ _ (row_lists_lem Write a h c l) (Decides-or _ _ (row_lists_lem Write b k c l) (row_lists_lem Read b k c l)))
        (Decides-and _ _ (row_lists_lem Write b k c l) (Decides-or _ _ (row_lists_lem Write a h c l) (row_lists_lem Read a h c l)))

    -- a cell on which the records clash has a number
    clash_written : (cell : List ℕ) → Clashes cell → (x : List ℕ) × Lists text Write x cell rs
    clash_written cell (inl w) = (name_in text t.events a, w.0)
    clash_written cell (inr w) = (name_in text t.events b, w.0)

    clash_number : (cell : List ℕ) → Clashes cell → (c : ℕ) × (c < length t.cells) × (clash_on t a b c ≡ true)
    clash_number cell w =
        let x = clash_written cell w in
        let n = cell_known text Write x.0 cell rs t tab x.1 in
        (n.0, n.1, (clash_decides n.0 n.1).1 (subst Clashes (sym n.2) w))

    clash_by_records : Decides (clash t a b) ((cell : List ℕ) × Clashes cell)
    clash_by_records =
        Decides-like (clash t a b)
        (λ n. (name_in text t.cells n.0, (clash_decides n.0 n.1).0 n.2)) (λ w. clash_number w.0 w.1)
        (clash_known t a b)

  apart_means : (a b : ℕ) → apart_by_cells t a b ≡ true → Undisturbed text rs t.events a b
  apart_means a b e =
      let p = and_parts (nat_lt a (length t.events)) _ e in
      let q = and_parts (nat_lt b (length t.events)) _ p.1 in
      let r = and_parts (not (a == b)) _ q.1 in
      let h = ltb-true a (length t.events) p.0 in
      let k = ltb-true b (length t.events) q.0 in
      let no = (Decides-not (clash t a b) (clash_by_records a b h k)).0 r.1 in (
        h,
        k,
        (Decides-not (a == b) (Decides-eqb a b)).0 r.0,
        λ cell w. no (cell, inl w),
        λ cell w. no (cell, inr w),
      )

  apart_meant : (a b : ℕ) → Undisturbed text rs t.events a b → apart_by_cells t a b ≡ true
  apart_meant a b m =
      and_from _ _ (lt-ltb a (length t.events) m.0)
      (and_from _ _ (lt-ltb b (length t.events) m.1)
      (and_from _ _ ((Decides-not (a == b) (Decides-eqb a b)).1 m.2)
      ((Decides-not (clash t a b) (clash_by_records a b m.0 m.1)).1
      (λ w. elim w.1 [ inl v ↦ m.3 w.0 v | inr v ↦ m.4 w.0 v ]))))

pub apart_by_records : (text : List ℕ) (t : Table) → ByRecords text t (apart_by_cells t)
apart_by_records text t rs tab a b = (apart_means text rs t tab a b, apart_meant text rs t tab a b)
