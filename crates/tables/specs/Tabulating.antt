-- What an event table says of its text: the law above the definitions by which it is read.
use Rattle.std.specs.Prelude.{◌≡◌, ℕ, ◌<◌, ◌≤◌, Bool, true, cond, ◌⊎◌, List, [], ◌∷◌, ◌++◌, map, length, codes, Decides, fold, slice_index_or}
use Rattle.lines.specs.declared.field.Field.{Field}
use Rattle.lines.specs.Fields.{bytes_of}
use Rattle.lines.specs.Texts.{Accepted}
use Rattle.std.specs.List.{flat_map, list_any, AllByRecursion}
use Rattle.std.specs.Str.{bytes_eq}
use Rattle.tables.specs.declared.row.Access.{Access}
use Rattle.tables.specs.declared.row.Access.TheVariants.{Read, Write}
use Rattle.tables.specs.declared.row.EventRow.{EventRow}
use Rattle.tables.specs.Naming.{is_name}
use Rattle.tables.specs.Numbering.{no_field}
use Rattle.tables.specs.Rowing.{empty_row, lists}
use Rattle.tables.specs.Entering.{Table, cells_in}

-- what each of the fields holds
abbrev pub names_of : List ℕ → List Field → List (List ℕ)
names_of text fields = map (bytes_of text) fields

-- the event of a record, and its process
abbrev pub event_in : List ℕ → List Field → List ℕ
event_in text r = bytes_of text (slice_index_or r 0 no_field)

abbrev pub process_in : List ℕ → List Field → List ℕ
process_in text r = bytes_of text (slice_index_or r 1 no_field)

-- the field of a record that lists what its event reads, or writes
abbrev pub list_field : Access → List Field → Field
list_field Read r = slice_index_or r 2 no_field
list_field Write r = slice_index_or r 3 no_field

-- the cells that a record lists
abbrev pub cells_of : List ℕ → Access → List Field → List (List ℕ)
cells_of text access r = names_of text (cells_in (list_field access r).start (bytes_of text (list_field access r)))

-- the cells that records list, one record after another, in each the reads before the writes
abbrev pub all_cells : List ℕ → List (List Field) → List (List ℕ)
all_cells text rs = flat_map (λ r. cells_of text Read r ++ cells_of text Write r) rs

-- the name is one of these
abbrev pub one_of : List ℕ → List (List ℕ) → Bool
one_of x ys = list_any (λ y. bytes_eq y x) ys

-- the names seen, with one that may be new
abbrev pub with_name : List (List ℕ) → List ℕ → List (List ℕ)
with_name seen x = cond (one_of x seen) seen (seen ++ x ∷ [])

-- each of the names once, in the order of first appearance
abbrev pub firsts : List (List ℕ) → List (List ℕ)
firsts xs = fold with_name [] xs

-- every record of the event names the process
abbrev pub Runs : List ℕ → List ℕ → List ℕ → List (List Field) → Type 0
Runs text event process rs = AllByRecursion (λ r. event_in text r ≡ event → process_in text r ≡ process) rs

-- some record of the event lists the cell
abbrev pub Lists : List ℕ → Access → List ℕ → List ℕ → List (List Field) → Type 0
Lists text access event cell [] = ⊥
Lists text access event cell (r ∷ rs) =
    ((event_in text r ≡ event) × (one_of cell (cells_of text access r) ≡ true)) ⊎ Lists text access event cell rs

-- the name with a number
abbrev pub name_in : List ℕ → List Field → ℕ → List ℕ
name_in text fields n = bytes_of text (slice_index_or fields n no_field)

-- the row of an event
abbrev pub row_in : Table → ℕ → EventRow
row_in t event = slice_index_or t.rows event (empty_row 0)

-- the fields number the names that appear, from 0 on
pub record Numbers (limit : ℕ) (text : List ℕ) (appearing : List (List ℕ)) (fields : List Field) : Type 0 where
  -- in the order of first appearance
  pub order : names_of text fields ≡ firsts appearing
  -- no two numbers have the same name
  pub distinct : (m n : ℕ) → m < length fields → n < length fields → name_in text fields m ≡ name_in text fields n → m ≡ n
  -- each is a name, and there are not too many
  pub named : (n : ℕ) → n < length fields → is_name (name_in text fields n) ≡ true
  pub few : length fields ≤ limit

-- the table is what the records say
pub record Tabulates (text : List ℕ) (rs : List (List Field)) (t : Table) : Type 0 where
  pub events : Numbers 64 text (map (event_in text) rs) t.events
  pub processes : Numbers 16 text (map (process_in text) rs) t.processes
  pub cells : Numbers 64 text (all_cells text rs) t.cells
  -- each event has a row
  pub rows : length t.rows ≡ length t.events
  -- with the process of its every record
  pub runs : (e : ℕ) → e < length t.events
      → ((row_in t e).process < length t.processes)
      × Runs text (name_in text t.events e) (name_in text t.processes (row_in t e).process) rs
  -- and just the cells that its records list
  pub listed : (access : Access) (e c : ℕ) → e < length t.events → c < length t.cells
      → Decides (lists access c (row_in t e)) (Lists text access (name_in text t.events e) (name_in text t.cells c) rs)
  -- a row lists nothing else
  pub within : (access : Access) (e c : ℕ) → lists access c (row_in t e) ≡ true → c < length t.cells

-- the text is read to its end as a header and records, and the table is what the records say
unfoldable pub Tabulated : List ℕ → Table → Type 0
Tabulated text t =
    (header : List Field) × (rs : List (List Field)) × Accepted 4 8192 text (header ∷ rs)
    × (names_of text header ≡ codes "event" ∷ codes "process" ∷ codes "reads" ∷ codes "writes" ∷ [])
    × Tabulates text rs t
