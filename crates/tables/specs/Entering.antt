-- What the records of an event table enter, one after another.
use Rattle.std.specs.Prelude.{ℕ, Bool, false, cond, List, [], ◌∷◌, ◌++◌, Some, None, Ok, Err, Option, Result, ◌==◌, slice_index_or}
use Rattle.lines.specs.declared.field.Field.{Field}
use Rattle.lines.specs.Fields.{bytes_of, parted}
use Rattle.tables.specs.declared.entries.Entries.{Entries}
use Rattle.tables.specs.declared.fault.NamesFault.{NamesFault}
use Rattle.tables.specs.declared.fault.NamesFault.TheVariants.{OtherProcess}
use Rattle.tables.specs.declared.row.Access.{Access}
use Rattle.tables.specs.declared.row.Access.TheVariants.{Read, Write}
use Rattle.tables.specs.declared.row.EventRow.{EventRow}
use Rattle.tables.specs.Naming.{named}
use Rattle.tables.specs.Numbering.{no_field, number_of, numbered}
use Rattle.tables.specs.Rowing.{empty_row, row_of, rows_with}
use Rattle.tables.specs.Telling.{and_then}

-- the names by number, each by the field of its first appearance, and the rows of the events
abbrev pub Table : Type 0
Table = Entries

abbrev pub no_entries : Table
no_entries = record { events = []; processes = []; cells = []; rows = [] }

abbrev pub with_events : Table → List Field → Table
with_events t events = record { events = events; processes = t.processes; cells = t.cells; rows = t.rows }

-- the number is this one
abbrev pub is_number : ℕ → Option ℕ → Bool
is_number n None = false
is_number n (Some m) = m == n

-- the event's row: a known event has to keep its process, and a new one gets the next row
abbrev pub settled_as : List ℕ → Field → Table → Option EventRow → Result Table NamesFault
settled_as text process t (Some row) =
    cond
    (is_number row.process (number_of text t.processes (bytes_of text process)))
    (Ok t)
    (Err (OtherProcess process.start))
settled_as text process t None =
    and_then
    (numbered text t.processes process 16 process.start)
    (λ p. Ok (record { events = t.events; processes = p.1; cells = t.cells; rows = t.rows ++ empty_row p.0 ∷ [] }))

abbrev pub settled : List ℕ → ℕ → Field → Table → Result Table NamesFault
settled text event process t = settled_as text process t (row_of t.rows event)

-- the first two fields of a record give the event's number
abbrev pub add_event : List ℕ → Field → Field → Table → Result (ℕ × Table) NamesFault
add_event text event process t =
    and_then (named text event event.start) (λ _.
    and_then (numbered text t.events event 64 event.start) (λ n.
    and_then (named text process process.start) (λ _.
    and_then (settled text n.0 process (with_events t n.1)) (λ u. Ok (n.0, u)))))

-- one more cell for the event; its fault stands at place
abbrev pub add_cell : List ℕ → ℕ → Access → ℕ → Field → Table → Result Table NamesFault
add_cell text event access place cell t =
    and_then (named text cell place) (λ _.
    and_then (numbered text t.cells cell 64 place) (λ n.
    Ok (record { events = t.events; processes = t.processes; cells = n.1; rows = rows_with access n.0 event t.rows })))

abbrev pub add_each : List ℕ → ℕ → Access → ℕ → List Field → Table → Result Table NamesFault
add_each text event access place [] t = Ok t
add_each text event access place (cell ∷ cells) t =
    and_then (add_cell text event access place cell t) (add_each text event access place cells)

-- the cells that a field's bytes list, parted by single spaces
abbrev pub cells_in : ℕ → List ℕ → List Field
cells_in place [] = []
cells_in place (b ∷ bs) = parted 32 place place (b ∷ bs)

abbrev pub add_cells : List ℕ → ℕ → Access → Field → Table → Result Table NamesFault
add_cells text event access field t =
    add_each text event access field.start (cells_in field.start (bytes_of text field)) t

-- a record: the event, its process, the cells that it reads, the cells that it writes
abbrev pub add_record : List ℕ → List Field → Table → Result Table NamesFault
add_record text fields t =
    and_then (add_event text (slice_index_or fields 0 no_field) (slice_index_or fields 1 no_field) t) (λ e.
    and_then (add_cells text e.0 Read (slice_index_or fields 2 no_field) e.1) (λ u.
    add_cells text e.0 Write (slice_index_or fields 3 no_field) u))
