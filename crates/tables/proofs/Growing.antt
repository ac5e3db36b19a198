-- What adding to a table keeps, and what it brings.
use Rattle.std.proofs.Common.{◌≡◌, ℕ, ◌<◌, ◌≤◌, true, ◌⊎◌, List, ◌++◌, length, Some, fold, sym, refl, ap, ◌∙◌, inl, inr, arith}
use Rattle.lines.specs.declared.field.Field.{Field}
use Rattle.lines.specs.Fields.{bytes_of}
use Rattle.std.proofs.lemmas.List.{get_or_past}
use Rattle.std.proofs.lemmas.List.Sums.{fold-append}
use Rattle.std.proofs.lemmas.Bool.{cases_lt}
use Rattle.std.specs.List.{All}
use Rattle.tables.specs.declared.row.Access.{Access}
use Rattle.tables.specs.Naming.{is_name}
use Rattle.tables.specs.Numbering.{number_of}
use Rattle.tables.specs.Rowing.{empty_row, lists}
use Rattle.tables.specs.Entering.{Table}
use Rattle.tables.specs.Tabulating.{names_of, row_in, with_name}
use Rattle.tables.proofs.Marks.{marks, empty_lists}
use Rattle.tables.proofs.Numbers.{number_below}

-- at most so many fields, each with a name
abbrev pub Fitting : ℕ → List ℕ → List Field → Type 0
Fitting limit text fs = (length fs ≤ limit) × All (λ f. is_name (bytes_of text f) ≡ true) fs

-- what holds of the table at any time
pub record Whole (text : List ℕ) (t : Table) : Type 0 where
  pub events : Fitting 64 text t.events
  pub processes : Fitting 16 text t.processes
  pub cells : Fitting 64 text t.cells
  pub rows : length t.rows ≡ length t.events
  pub runs : (e : ℕ) → e < length t.rows → (row_in t e).process < length t.processes
  pub within : (a : Access) (e c : ℕ) → lists a c (row_in t e) ≡ true → c < length t.cells
  pub full : (a : Access) (e : ℕ) → length (marks a (row_in t e)) ≡ 64

-- only an event lists a cell
pub lists_below : (t : Table) (a : Access) (e c : ℕ) → lists a c (row_in t e) ≡ true → e < length t.rows
lists_below t a e c h =
    elim (cases_lt e (length t.rows)) [
      | inl l ↦ l
      | inr l ↦ absurd (empty_lists a c 0 (ap (lists a c) (sym (get_or_past t.rows e (empty_row 0) l)) ∙ h))
    ]

-- by name: the table lists the cell for the event
pub record Listed (text : List ℕ) (t : Table) (a : Access) (x y : List ℕ) : Type 0 where
  pub e : ℕ
  pub c : ℕ
  pub event : number_of text t.events x ≡ Some e
  pub cell : number_of text t.cells y ≡ Some c
  pub lists : lists a c (row_in t e) ≡ true

-- by name: the event has the process
pub record Ran (text : List ℕ) (t : Table) (x p : List ℕ) : Type 0 where
  pub e : ℕ
  pub event : number_of text t.events x ≡ Some e
  pub process : number_of text t.processes p ≡ Some (row_in t e).process

abbrev pub Keeps : List ℕ → List Field → List Field → Type 0
Keeps text fs gs = (x : List ℕ) (n : ℕ) → number_of text fs x ≡ Some n → number_of text gs x ≡ Some n

-- numbers and processes stay
pub record Grows (text : List ℕ) (t u : Table) : Type 0 where
  pub events : Keeps text t.events u.events
  pub processes : Keeps text t.processes u.processes
  pub cells : Keeps text t.cells u.cells
  pub rows : length t.rows ≤ length u.rows
  pub process : (e : ℕ) → e < length t.rows → (row_in u e).process ≡ (row_in t e).process

grows_on : (text : List ℕ) (t u v : Table) → Grows text t u → Grows text u v → Grows text t v
grows_on text t u v g h =
    record {
      events = λ x n k. h.events x n (g.events x n k);
      processes = λ x n k. h.processes x n (g.processes x n k);
      cells = λ x n k. h.cells x n (g.cells x n k);
      rows = omega arith;
      process = λ e k. h.process e (omega (arith, g.rows)) ∙ g.process e k;
    }

pub ran_on : (text : List ℕ) (t u : Table) (x p : List ℕ) → Whole text t → Grows text t u → Ran text t x p → Ran text u x p
ran_on text t u x p w g r =
    let h : r.e < length t.rows = omega (arith, number_below text t.events x r.e r.event, w.rows) in
    record {
      e = r.e;
      event = g.events x r.e r.event;
      process = g.processes p _ r.process ∙ ap Some (sym (g.process r.e h));
    }

-- what is listed, by access, event and cell
abbrev pub Listing : Type 1
Listing = Access → List ℕ → List ℕ → Type 0

abbrev pub Nothing : Listing
Nothing a x y = ⊥

-- u is t with these events, processes and cells, and with this listed
pub record Adds (text : List ℕ) (t u : Table) (es ps cs : List (List ℕ)) (L : Listing) : Type 0 where
  pub whole : Whole text u
  pub grows : Grows text t u
  pub events : names_of text u.events ≡ fold with_name (names_of text t.events) es
  pub processes : names_of text u.processes ≡ fold with_name (names_of text t.processes) ps
  pub cells : names_of text u.cells ≡ fold with_name (names_of text t.cells) cs
  pub from : (a : Access) (x y : List ℕ) → Listed text u a x y → Listed text t a x y ⊎ L a x y
  pub old : (a : Access) (x y : List ℕ) → Listed text t a x y → Listed text u a x y
  pub new : (a : Access) (x y : List ℕ) → L a x y → Listed text u a x y

names_on : (xs ys zs ns ms : List (List ℕ)) → ys ≡ fold with_name xs ns → zs ≡ fold with_name ys ms
    → zs ≡ fold with_name xs (ns ++ ms)
names_on xs ys zs ns ms e f = f ∙ ap (λ seen. fold with_name seen ms) e ∙ sym (fold-append with_name xs ns ms)

-- one addition after another
pub adds_on : (text : List ℕ) (t u v : Table) (es ps cs es' ps' cs' : List (List ℕ)) (L M N : Listing)
    → Adds text t u es ps cs L → Adds text u v es' ps' cs' M
    → ((a : Access) (x y : List ℕ) → L a x y ⊎ M a x y → N a x y) → ((a : Access) (x y : List ℕ) → N a x y → L a x y ⊎ M a x y)
    → Adds text t v (es ++ es') (ps ++ ps') (cs ++ cs') N
adds_on text t u v es ps cs es' ps' cs' L M N p q to back =
    record {
      whole = q.whole;
      grows = grows_on text t u v p.grows q.grows;
      events = names_on _ _ _ es es' p.events q.events;
      processes = names_on _ _ _ ps ps' p.processes q.processes;
      cells = names_on _ _ _ cs cs' p.cells q.cells;
      from = λ a x y l.
          elim (q.from a x y l) [
            | inl k ↦ elim (p.from a x y k) [ inl o ↦ inl o | inr n ↦ inr (to a x y (inl n)) ]
            | inr n ↦ inr (to a x y (inr n))
          ];
      old = λ a x y l. q.old a x y (p.old a x y l);
      new = λ a x y n.
          elim (back a x y n) [ inl l ↦ q.old a x y (p.new a x y l) | inr m ↦ q.new a x y m ];
    }

-- nothing changes where the names are known and nothing is listed
pub adds_none : (text : List ℕ) (t : Table) (es ps cs : List (List ℕ)) (L : Listing) → Whole text t
    → names_of text t.events ≡ fold with_name (names_of text t.events) es
    → names_of text t.processes ≡ fold with_name (names_of text t.processes) ps
    → names_of text t.cells ≡ fold with_name (names_of text t.cells) cs
    → ((a : Access) (x y : List ℕ) → L a x y → ⊥) → Adds text t t es ps cs L
adds_none text t es ps cs L w e p c none =
    record {
      whole = w;
      grows =
          record { events = λ x n h. h; processes = λ x n h. h; cells = λ x n h. h; rows = omega arith; process = λ e h. refl };
      events = e;
      processes = p;
      cells = c;
      from = λ a x y l. inl l;
      old = λ a x y l. l;
      new = λ a x y l. absurd (none a x y l);
    }
