-- An event table is what its records say.
use Rattle.std.proofs.Common.{◌≡◌, ℕ, ◌<◌, ◌≤◌, true, List, [], map, length, get_or, Some, Ok, sym, refl, ap, ◌∙◌, subst, inl, inr, arith}
use Rattle.lines.specs.declared.field.Field.{Field}
use Rattle.lines.specs.Fields.{bytes_of}
use Rattle.std.proofs.lemmas.List.Elements.{All-nil, recursion_from_All}
use Rattle.std.proofs.lemmas.List.{get_or-map, length-map}
use Rattle.std.specs.List.{All}
use Rattle.tables.specs.declared.row.Access.{Access}
use Rattle.tables.specs.Entering.{Table, no_entries, add_record}
use Rattle.tables.specs.Heading.{opened_by}
use Rattle.tables.specs.Numbering.{no_field, number_of}
use Rattle.tables.specs.Rowing.{lists}
use Rattle.tables.specs.Tabling.{event_header, event_table}
use Rattle.tables.specs.Tabulating.{names_of, event_in, process_in, all_cells, firsts, name_in, row_in, Lists, Numbers, Tabulates, Tabulated}
use Rattle.tables.proofs.Firsts.{Distinct, distinct_firsts}
use Rattle.tables.proofs.Heads.{opened_is}
use Rattle.tables.proofs.Growing.{Fitting, Whole, Listed, Ran, Adds}
use Rattle.tables.proofs.Marks.{empty_lists, empty_full}
use Rattle.tables.proofs.Numbers.{number_name, numbers_at}
use Rattle.tables.proofs.Recording.{records_added}
use Rattle.tables.proofs.Turns.{and_then_made, add_all, records_read}

numbers_from : (limit : ℕ) (text : List ℕ) (appearing : List (List ℕ)) (fs : List Field) → names_of text fs ≡ firsts appearing
    → Fitting limit text fs → Numbers limit text appearing fs
numbers_from limit text appearing fs e fit =
    let d : Distinct (names_of text fs) = subst Distinct (sym e) (distinct_firsts appearing) in
    let same = length-map fs (bytes_of text) in
    record {
      order = e;
      distinct = λ m n h k s.
          d m n (omega arith) (omega arith) (get_or-map (bytes_of text) fs m no_field [] h ∙ s ∙ sym (get_or-map (bytes_of text) fs n no_field [] k));
      named = λ n h. fit.1 n no_field h;
      few = fit.0;
    }

none_whole : (text : List ℕ) → Whole text no_entries
none_whole text =
    record {
      events = (omega arith, All-nil _);
      processes = (omega arith, All-nil _);
      cells = (omega arith, All-nil _);
      rows = refl;
      runs = λ e h. absurd (omega arith);
      within = λ a e c h. absurd (empty_lists a c 0 h);
      full = λ a e. empty_full a 0;
    }

none_listed : (text : List ℕ) (a : Access) (x y : List ℕ) → Listed text no_entries a x y → ⊥
none_listed text a x y l = empty_lists a l.c 0 l.lists

module _ (text : List ℕ) (rs : List (List Field)) (t : Table) (e : add_all (add_record text) rs no_entries ≡ Ok t) where
  added : Adds text no_entries t (map (event_in text) rs) (map (process_in text) rs) (all_cells text rs) (λ a x y. Lists text a x y rs)
      × All (λ r. Ran text t (event_in text r) (process_in text r)) rs
  added = records_added text rs no_entries t (none_whole text) e

  events_numbered : Numbers 64 text (map (event_in text) rs) t.events
  events_numbered = numbers_from 64 text (map (event_in text) rs) t.events added.0.events added.0.whole.events

  cells_numbered : Numbers 64 text (all_cells text rs) t.cells
  cells_numbered = numbers_from 64 text (all_cells text rs) t.cells added.0.cells added.0.whole.cells

  -- an event has one number, so what its record says is said of its row
  ran_at : (n : ℕ) → n < length t.events → (r : List Field) → Ran text t (event_in text r) (process_in text r)
      → event_in text r ≡ name_in text t.events n → process_in text r ≡ name_in text t.processes (row_in t n).process
  ran_at n h r ran s =
      let at = numbers_at 64 text (map (event_in text) rs) t.events events_numbered n h in
      let same : ran.e ≡ n = let k : Some ran.e ≡ Some n = sym ran.event ∙ ap (number_of text t.events) s ∙ at in cc in
      sym (number_name text t.processes (process_in text r) (row_in t n).process (ran.process ∙ ap (λ i. Some (row_in t i).process) same))

  listed_at : (a : Access) (n c : ℕ) → n < length t.events → c < length t.cells
      → Listed text t a (name_in text t.events n) (name_in text t.cells c) → lists a c (row_in t n) ≡ true
  listed_at a n c h k l =
      let at = numbers_at 64 text (map (event_in text) rs) t.events events_numbered n h in
      let in' = numbers_at 64 text (all_cells text rs) t.cells cells_numbered c k in
      let same : l.e ≡ n = let s : Some l.e ≡ Some n = sym l.event ∙ at in cc in
      let this : l.c ≡ c = let s : Some l.c ≡ Some c = sym l.cell ∙ in' in cc in
      ap (λ i. lists a c (row_in t i)) (sym same) ∙ ap (λ i. lists a i (row_in t l.e)) (sym this) ∙ l.lists

  tabulates : Tabulates text rs t
  tabulates =
      record {
        events = events_numbered;
        processes = numbers_from 16 text (map (process_in text) rs) t.processes added.0.processes added.0.whole.processes;
        cells = cells_numbered;
        rows = added.0.whole.rows;
        runs = λ n h. (
          added.0.whole.runs n (omega (arith, added.0.whole.rows)),
          recursion_from_All _ rs (λ k d lt. ran_at n h (get_or rs k d) (added.1 k d lt)),
        );
        listed = λ a n c h k. (
          λ is.
              let l : Listed text t a (name_in text t.events n) (name_in text t.cells c) = record {
                e = n;
                c = c;
                event = numbers_at 64 text (map (event_in text) rs) t.events events_numbered n h;
                cell = numbers_at 64 text (all_cells text rs) t.cells cells_numbered c k;
                lists = is;
              } in
              elim (added.0.from a _ _ l) [ inl o ↦ absurd (none_listed text a _ _ o) | inr o ↦ o ],
          λ l. listed_at a n c h k (added.0.new a _ _ l),
        );
        within = added.0.whole.within;
      }

-- the law
pub table_tabulated : (text : List ℕ) (t : Table) → event_table text ≡ Ok t → Tabulated text t
unfolding Tabulated
table_tabulated text t e =
    let o = and_then_made (opened_by 8192 event_header text) _ t e in
    let h = opened_is 8192 event_header text o.0 o.1 in
    let r = records_read 4 (add_record text) text o.0 no_entries t o.2 in
    (h.0, r.0, (o.0, h.1, r.1), h.2, tabulates text r.0 t r.2)

-- what users of a table want of its numbers
module _ (text : List ℕ) (t : Table) (e : event_table text ≡ Ok t) where
  pub table_says : (rs : List (List Field)) × Tabulates text rs t
  unfolding Tabulated
  table_says = let w = table_tabulated text t e in (w.1, w.4)

  pub events_few : length t.events ≤ 64
  events_few = table_says.1.events.few

  pub processes_few : length t.processes ≤ 16
  processes_few = table_says.1.processes.few

  pub cells_few : length t.cells ≤ 64
  cells_few = table_says.1.cells.few

  pub event_number : (n : ℕ) → n < length t.events → number_of text t.events (name_in text t.events n) ≡ Some n
  event_number = numbers_at 64 text _ t.events table_says.1.events

  pub process_number : (n : ℕ) → n < length t.processes → number_of text t.processes (name_in text t.processes n) ≡ Some n
  process_number = numbers_at 16 text _ t.processes table_says.1.processes

  pub cell_number : (n : ℕ) → n < length t.cells → number_of text t.cells (name_in text t.cells n) ≡ Some n
  cell_number = numbers_at 64 text _ t.cells table_says.1.cells
