-- What a cell adds to a table.
use Rattle.std.proofs.Common.{◌≡◌, ℕ, ◌<◌, true, ◌⊎◌, List, [], ◌∷◌, length, Some, sym, refl, ap, ◌∙◌, subst, inl, inr, arith}
use Rattle.lines.specs.declared.field.Field.{Field}
use Rattle.lines.specs.Fields.{bytes_of}
use Rattle.std.proofs.lemmas.List.{get_or-set_other, get_or-set_same, length-set}
use Rattle.std.proofs.lemmas.Bool.{cases_eq}
use Rattle.tables.specs.declared.row.Access.{Access}
use Rattle.tables.specs.declared.row.EventRow.{EventRow}
use Rattle.tables.specs.Naming.{is_name}
use Rattle.tables.specs.Numbering.{number_of}
use Rattle.tables.specs.Rowing.{empty_row, with_cell, lists, rows_with}
use Rattle.tables.specs.Entering.{Table}
use Rattle.tables.specs.Tabulating.{row_in}
use Rattle.tables.proofs.Growing.{Whole, Listed, Listing, Adds}
use Rattle.tables.proofs.Marks.{marks, with_process, with_full, with_from, with_old, with_new}
use Rattle.tables.proofs.Numbers.{Numbered, number_below, number_name, numbered_longer, numbered_keeps, numbered_front, numbered_all}

-- one more cell for a known event
module _ (text : List ℕ) (t : Table) (w : Whole text t) (x : List ℕ) (n : ℕ) (known : number_of text t.events x ≡ Some n)
    (access : Access) (cell : Field) (k : ℕ) (after : List Field) (m : Numbered text t.cells cell 64 k after)
    (named : is_name (bytes_of text cell) ≡ true) where
  abbrev pub cell_added : Table
  cell_added =
      record { events = t.events; processes = t.processes; cells = after; rows = rows_with access k n t.rows }

  below : k < length after
  below = number_below text after (bytes_of text cell) k m.number

  in_row : (e : ℕ) → k < length (marks access (row_in t e))
  in_row e = omega (arith, below, m.few w.cells.0, w.full access e)

  by_row : (e : ℕ) → (row_in cell_added e ≡ row_in t e) ⊎ ((e ≡ n) × (row_in cell_added e ≡ with_cell access k (row_in t e)))
  by_row e =
      elim (cases_eq e n) [
        | inl s ↦
            let h : n < length t.rows = omega (arith, number_below text t.events x n known, w.rows) in
            inr (s, subst (λ i. row_in cell_added i ≡ with_cell access k (row_in t i)) (sym s) (get_or-set_same t.rows n _ (empty_row 0) h))
        | inr s ↦ inl (get_or-set_other t.rows n e _ (empty_row 0) s)
      ]

  row_process : (e : ℕ) → (row_in cell_added e).process ≡ (row_in t e).process
  row_process e =
      elim (by_row e) [
        | inl s ↦ ap (λ (r : EventRow). r.process) s
        | inr s ↦ ap (λ (r : EventRow). r.process) s.1 ∙ with_process k (row_in t e) access
      ]

  row_full : (a : Access) (e : ℕ) → length (marks a (row_in cell_added e)) ≡ length (marks a (row_in t e))
  row_full a e =
      elim (by_row e) [
        | inl s ↦ ap (λ (r : EventRow). length (marks a r)) s
        | inr s ↦ ap (λ (r : EventRow). length (marks a r)) s.1 ∙ with_full k (row_in t e) access a
      ]

  row_from : (a : Access) (e c : ℕ) → lists a c (row_in cell_added e) ≡ true
      → (lists a c (row_in t e) ≡ true) ⊎ ((a ≡ access) × (e ≡ n) × (c ≡ k))
  row_from a e c h =
      elim (by_row e) [
        | inl s ↦ inl (ap (lists a c) (sym s) ∙ h)
        | inr s ↦
            elim (with_from k (row_in t e) access a c (ap (lists a c) (sym s.1) ∙ h)) [
              | inl o ↦ inl o
              | inr o ↦ inr (o.0, s.0, o.1)
            ]
      ]

  row_old : (a : Access) (e c : ℕ) → lists a c (row_in t e) ≡ true → lists a c (row_in cell_added e) ≡ true
  row_old a e c h =
      elim (by_row e) [
        | inl s ↦ ap (lists a c) s ∙ h
        | inr s ↦ ap (lists a c) s.1 ∙ with_old k (row_in t e) access a c (in_row e) h
      ]

  row_new : lists access k (row_in cell_added n) ≡ true
  row_new =
      let h : n < length t.rows = omega (arith, number_below text t.events x n known, w.rows) in
      ap (lists access k) (get_or-set_same t.rows n _ (empty_row 0) h) ∙ with_new k (row_in t n) access (in_row n)

  cell_whole : Whole text cell_added
  cell_whole =
      record {
        events = w.events;
        processes = w.processes;
        cells = (m.few w.cells.0, numbered_all text t.cells cell 64 k after m (λ f. is_name (bytes_of text f) ≡ true) named w.cells.1);
        rows = length-set t.rows n _ ∙ w.rows;
        runs = λ e h. omega (arith, row_process e, w.runs e (omega (arith, length-set t.rows n (with_cell access k (row_in t n)))));
        within = λ a e c h.
            elim (row_from a e c h) [
              | inl o ↦ omega (arith, w.within a e c o, numbered_longer text t.cells cell 64 k after m)
              | inr o ↦ omega (arith, o.2, below)
            ];
        full = λ a e. row_full a e ∙ w.full a e;
      }

  abbrev OneCell : Listing
  OneCell a y z = (a ≡ access) × (x ≡ y) × (bytes_of text cell ≡ z)

  cell_from : (a : Access) (y z : List ℕ) → Listed text cell_added a y z → Listed text t a y z ⊎ OneCell a y z
  cell_from a y z l =
      elim (row_from a l.e l.c l.lists) [
        | inl o ↦
            inl
            (record {
              e = l.e;
              c = l.c;
              event = l.event;
              cell = numbered_front text t.cells cell 64 k after m z l.c (w.within a l.e l.c o) l.cell;
              lists = o;
            })
        | inr o ↦
            inr (
              o.0,
              sym (number_name text t.events x n known) ∙ number_name text t.events y n (l.event ∙ ap Some o.1),
              sym (number_name text after (bytes_of text cell) k m.number) ∙ number_name text after z k (l.cell ∙ ap Some o.2),
            )
      ]

  cell_new : (a : Access) (y z : List ℕ) → OneCell a y z → Listed text cell_added a y z
  cell_new a y z o =
      record {
        e = n;
        c = k;
        event = ap (λ v. number_of text t.events v) (sym o.1) ∙ known;
        cell = ap (λ v. number_of text after v) (sym o.2) ∙ m.number;
        lists = ap (λ b. lists b k (row_in cell_added n)) o.0 ∙ row_new;
      }

  pub cell_adds : Adds text t cell_added [] [] (bytes_of text cell ∷ []) OneCell
  cell_adds =
      record {
        whole = cell_whole;
        grows =
            record {
              events = λ v i h. h;
              processes = λ v i h. h;
              cells = numbered_keeps text t.cells cell 64 k after m;
              rows = omega (arith, length-set t.rows n (with_cell access k (row_in t n)));
              process = λ e h. row_process e;
            };
        events = refl;
        processes = refl;
        cells = m.order;
        from = cell_from;
        old = λ a y z l.
            record {
              e = l.e;
              c = l.c;
              event = l.event;
              cell = numbered_keeps text t.cells cell 64 k after m z l.c l.cell;
              lists = row_old a l.e l.c l.lists;
            };
        new = cell_new;
      }
