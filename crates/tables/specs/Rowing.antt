-- The rows of an event table.
use Rattle.std.specs.Prelude.{ℕ, Bool, true, false, cond, List, length, replicate, Some, None, Option, nat_lt, slice_index_or, slice_set}
use Rattle.tables.specs.declared.row.Access.{Access}
use Rattle.tables.specs.declared.row.Access.TheVariants.{Read, Write}
use Rattle.tables.specs.declared.row.EventRow.{EventRow}

-- the row of an event that lists no cell yet
abbrev pub empty_row : ℕ → EventRow
empty_row process =
    record { process = process; reads = record { listed = replicate 64 false }; writes = record { listed = replicate 64 false } }

-- the row with one cell more
abbrev pub with_cell : Access → ℕ → EventRow → EventRow
with_cell Read cell row =
    record { process = row.process; reads = record { listed = slice_set row.reads.listed cell true }; writes = row.writes }
with_cell Write cell row =
    record { process = row.process; reads = row.reads; writes = record { listed = slice_set row.writes.listed cell true } }

-- the row lists the cell
abbrev pub lists : Access → ℕ → EventRow → Bool
lists Read cell row = slice_index_or row.reads.listed cell false
lists Write cell row = slice_index_or row.writes.listed cell false

-- the row of an event
abbrev pub row_of : List EventRow → ℕ → Option EventRow
row_of rows event = cond (nat_lt event (length rows)) (Some (slice_index_or rows event (empty_row 0))) None

-- the rows with one cell more in that of an event
abbrev pub rows_with : Access → ℕ → ℕ → List EventRow → List EventRow
rows_with access cell event rows = slice_set rows event (with_cell access cell (slice_index_or rows event (empty_row 0)))

-- the process of the row, if there is one
abbrev pub process_of : Option EventRow → Option ℕ
process_of None = None
process_of (Some row) = Some row.process

-- there is a row, and it lists the cell
abbrev pub lists_at : Access → ℕ → Option EventRow → Bool
lists_at access cell None = false
lists_at access cell (Some row) = lists access cell row
