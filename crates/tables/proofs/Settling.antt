-- What the event of a record and its process add to a table.
use Rattle.std.proofs.Common.{◌≡◌, ℕ, ◌<◌, ◌≤◌, true, ltb, ◌⊎◌, List, [], ◌∷◌, ◌++◌, length, is_some, Some, None, Ok, Option, Result, sym, refl, ap, ◌∙◌, subst, inl, inr, arith}
use Rattle.lines.specs.declared.field.Field.{Field}
use Rattle.lines.specs.Fields.{bytes_of}
use Rattle.std.proofs.lemmas.List.{get_or_append_left, get_or_past, get_or_push, length_push}
use Rattle.std.proofs.lemmas.Bool.{cases_lt, cond_both, cond-true, eqb-true, false≢true, ltb-false, ltb-true}
use Rattle.tables.specs.declared.fault.NamesFault.{NamesFault}
use Rattle.tables.specs.declared.row.Access.{Access}
use Rattle.tables.specs.declared.row.EventRow.{EventRow}
use Rattle.tables.specs.Naming.{is_name}
use Rattle.tables.specs.Numbering.{number_of, numbered}
use Rattle.tables.specs.Rowing.{empty_row, lists}
use Rattle.tables.specs.Entering.{Table, with_events, is_number, settled_as, settled}
use Rattle.tables.specs.Tabulating.{row_in}
use Rattle.tables.proofs.Growing.{Whole, Ran, Nothing, Adds, adds_none, lists_below}
use Rattle.tables.proofs.Marks.{marks, empty_lists, empty_full}
use Rattle.tables.proofs.Numbers.{Numbered, known_number, number_below, numbered_longer, numbered_keeps, numbered_front, numbered_all, numbered_old, numbered_new, numbered_is}
use Rattle.tables.proofs.Turns.{ok_same, and_then_made}

-- the event has the number, and the process
pub record Settled (text : List ℕ) (t u : Table) (x p : List ℕ) (n : ℕ) : Type 0 where
  pub adds : Adds text t u (x ∷ []) (p ∷ []) [] Nothing
  pub number : number_of text u.events x ≡ Some n
  pub ran : Ran text u x p

number_true : (n : ℕ) (o : Option ℕ) → is_number n o ≡ true → o ≡ Some n
number_true n (Some m) e = ap Some (eqb-true m n e)
number_true n None e = absurd (false≢true e)

module _ (text : List ℕ) (t : Table) (w : Whole text t) (event process : Field) (n : ℕ) (events : List Field) (m : Numbered text t.events event 64 n events) where
  abbrev SettledIn : Table → Type 0
  SettledIn u = Settled text t u (bytes_of text event) (bytes_of text process) n

  -- a known event, with its process
  known_settled : n < length t.rows → number_of text t.processes (bytes_of text process) ≡ Some (row_in t n).process
      → SettledIn (with_events t events)
  known_settled h p =
      let old = numbered_old text t.events event 64 n events m (omega (arith, w.rows)) in
      let number = ap (λ fs. number_of text fs (bytes_of text event)) (sym old) ∙ m.number in
      subst (λ fs. SettledIn (with_events t fs)) (sym old)
      (record {
        adds =
            adds_none text t (bytes_of text event ∷ []) (bytes_of text process ∷ []) [] Nothing w
            (sym (cond-true _ _ _ (known_number text t.events (bytes_of text event) ∙ ap is_some number)))
            (sym (cond-true _ _ _ (known_number text t.processes (bytes_of text process) ∙ ap is_some p)))
            refl (λ a x y l. l);
        number = number;
        ran = record { e = n; event = number; process = p };
      })

  by_process : (u : Table) → n < length t.rows → settled_as text process (with_events t events) (Some (row_in t n)) ≡ Ok u → SettledIn u
  by_process u h =
      let o = number_of text t.processes (bytes_of text process) in
      cond_both (is_number (row_in t n).process o) _ _ (λ (r : Result Table NamesFault). r ≡ Ok u → SettledIn u)
      (λ s e. subst SettledIn (ok_same (with_events t events) u e) (known_settled h (number_true (row_in t n).process o s)))
      (λ _ e. let z : ◌≡◌ {A = ℕ} 0 1 = cc in absurd (omega arith))

  -- a new event
  module _ (event-name : is_name (bytes_of text event) ≡ true) (process-name : is_name (bytes_of text process) ≡ true)
      (past : length t.rows ≤ n) (q : ℕ) (processes : List Field) (o : Numbered text t.processes process 16 q processes) where
    abbrev event_added : Table
    event_added = record { events = events; processes = processes; cells = t.cells; rows = t.rows ++ empty_row q ∷ [] }

    is_new : (events ≡ t.events ++ event ∷ []) × (n ≡ length t.events)
    is_new = numbered_new text t.events event 64 n events m (omega (arith, w.rows))

    row_old : (e : ℕ) → e < length t.rows → row_in event_added e ≡ row_in t e
    row_old e h = get_or_append_left t.rows (empty_row q ∷ []) (empty_row 0) e h

    row_new : (e : ℕ) → length t.rows ≡ e → row_in event_added e ≡ empty_row q
    row_new e h = get_or_push t.rows (empty_row q) (empty_row 0) e h

    by_row : (e : ℕ) → (row_in event_added e ≡ row_in t e) ⊎ (row_in event_added e ≡ empty_row q)
    by_row e =
        elim (cases_lt e (length t.rows)) [
          | inl h ↦ inl (row_old e h)
          | inr h ↦
              elim (cases_lt (length t.rows) e) [
                | inl k ↦
                    inl (get_or_past (t.rows ++ empty_row q ∷ []) e (empty_row 0) (omega (arith, length_push t.rows (empty_row q))) ∙ sym (get_or_past t.rows e (empty_row 0) h))
                | inr k ↦ inr (row_new e (omega arith))
              ]
        ]

    row_from : (a : Access) (e c : ℕ) → lists a c (row_in event_added e) ≡ true → lists a c (row_in t e) ≡ true
    row_from a e c h =
        elim (by_row e) [
          | inl s ↦ ap (lists a c) (sym s) ∙ h
          | inr s ↦ absurd (empty_lists a c q (ap (lists a c) (sym s) ∙ h))
        ]

    added_rows : length event_added.rows ≡ length events
    added_rows =
        omega (arith, length_push t.rows (empty_row q), ap length is_new.0, length_push t.events event, w.rows)

    added_whole : Whole text event_added
    added_whole =
        record {
          events = (m.few w.events.0, numbered_all text t.events event 64 n events m (λ f. is_name (bytes_of text f) ≡ true) event-name w.events.1);
          processes = (o.few w.processes.0, numbered_all text t.processes process 16 q processes o (λ f. is_name (bytes_of text f) ≡ true) process-name w.processes.1);
          cells = w.cells;
          rows = added_rows;
          runs = λ e h.
              elim (cases_lt e (length t.rows)) [
                | inl k ↦
                    omega (arith, ap (λ (r : EventRow). r.process) (row_old e k), w.runs e k, numbered_longer text t.processes process 16 q processes o)
                | inr k ↦
                    omega (arith, ap (λ (r : EventRow). r.process) (row_new e (omega (arith, length_push t.rows (empty_row q)))), number_below text processes (bytes_of text process) q o.number)
              ];
          within = λ a e c h. w.within a e c (row_from a e c h);
          full = λ a e.
              elim (by_row e) [
                | inl s ↦ ap (λ (r : EventRow). length (marks a r)) s ∙ w.full a e
                | inr s ↦ ap (λ (r : EventRow). length (marks a r)) s ∙ empty_full a q
              ];
        }

    new_adds : Adds text t event_added (bytes_of text event ∷ []) (bytes_of text process ∷ []) [] Nothing
    new_adds =
        record {
          whole = added_whole;
          grows =
              record {
                events = numbered_keeps text t.events event 64 n events m;
                processes = numbered_keeps text t.processes process 16 q processes o;
                cells = λ x i h. h;
                rows = omega (arith, length_push t.rows (empty_row q));
                process = λ e h. ap (λ (r : EventRow). r.process) (row_old e h);
              };
          events = m.order;
          processes = o.order;
          cells = refl;
          from = λ a x y l.
              let h = row_from a l.e l.c l.lists in
              inl
              (record {
                e = l.e;
                c = l.c;
                event = numbered_front text t.events event 64 n events m x l.e (omega (arith, lists_below t a l.e l.c h, w.rows)) l.event;
                cell = l.cell;
                lists = h;
              });
          old = λ a x y l.
              record {
                e = l.e;
                c = l.c;
                event = numbered_keeps text t.events event 64 n events m x l.e l.event;
                cell = l.cell;
                lists = ap (lists a l.c) (row_old l.e (lists_below t a l.e l.c l.lists)) ∙ l.lists;
              };
          new = λ a x y l. absurd l;
        }

    new_settled : SettledIn event_added
    new_settled =
        record {
          adds = new_adds;
          number = m.number;
          ran =
              record {
                e = n;
                event = m.number;
                process = o.number ∙ ap Some (sym (ap (λ (r : EventRow). r.process) (row_new n (w.rows ∙ sym is_new.1))));
              };
        }

  pub settled_is : is_name (bytes_of text event) ≡ true → is_name (bytes_of text process) ≡ true → (u : Table)
      → settled text n process (with_events t events) ≡ Ok u → Settled text t u (bytes_of text event) (bytes_of text process) n
  settled_is event-name process-name u =
      cond_both (ltb n (length t.rows)) _ _
      (λ (o : Option EventRow). settled_as text process (with_events t events) o ≡ Ok u → SettledIn u)
      (λ h. by_process u (ltb-true n (length t.rows) h))
      (λ h e.
      let q = and_then_made (numbered text t.processes process 16 process.start) _ u e in
      let o = numbered_is text t.processes process 16 process.start q.0 q.1 in
      subst SettledIn (ok_same _ u q.2)
      (new_settled event-name process-name (ltb-false n (length t.rows) h) q.0.0 q.0.1 o))
