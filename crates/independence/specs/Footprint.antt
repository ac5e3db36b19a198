-- Events that do not meet on a cell, by the table and by the records of its text.
use Rattle.std.specs.Prelude.{ℕ, ◌<◌, Bool, not, ◌&&◌, ◌||◌, ◌⊎◌, List, length, Decides, ◌==◌, ◌≢◌, nat_lt}
use Rattle.std.specs.List.{list_any, range_with_len}
use Rattle.lines.specs.declared.field.Field.{Field}
use Rattle.tables.specs.declared.row.Access.{Access}
use Rattle.tables.specs.declared.row.Access.TheVariants.{Read, Write}
use Rattle.tables.specs.Entering.{Table}
use Rattle.tables.specs.Rowing.{row_of, lists_at}
use Rattle.tables.specs.Tabulating.{Lists, Tabulates, name_in}

-- the event's row lists the cell
abbrev pub row_lists : Table → Access → ℕ → ℕ → Bool
row_lists t access e c = lists_at access c (row_of t.rows e)

-- the first event writes the cell, and the second writes or reads it
abbrev pub disturbs : Table → ℕ → ℕ → ℕ → Bool
disturbs t a b c = row_lists t Write a c && (row_lists t Write b c || row_lists t Read b c)

abbrev pub clash_on : Table → ℕ → ℕ → ℕ → Bool
clash_on t a b c = disturbs t a b c || disturbs t b a c

-- they clash on one of the table's cells
abbrev pub clash : Table → ℕ → ℕ → Bool
clash t a b = list_any (clash_on t a b) (range_with_len 0 (length t.cells))

-- two different events that clash on no cell
abbrev pub apart_by_cells : Table → ℕ → ℕ → Bool
apart_by_cells t a b =
    nat_lt a (length t.events)
    && (nat_lt b (length t.events) && (not (a == b) && not (clash t a b)))

-- some record of the first event lists the cell as written, and some record of the second as written or as read
abbrev pub Disturbs : List ℕ → List (List Field) → List ℕ → List ℕ → List ℕ → Type 0
Disturbs text rs x y cell = Lists text Write x cell rs × (Lists text Write y cell rs ⊎ Lists text Read y cell rs)

-- different events, of which the records tell of no cell on which one disturbs the other
abbrev pub Undisturbed : List ℕ → List (List Field) → List Field → ℕ → ℕ → Type 0
Undisturbed text rs events a b =
    (a < length events) × (b < length events) × (a ≢ b)
    × ((cell : List ℕ) → Disturbs text rs (name_in text events a) (name_in text events b) cell → ⊥)
    × ((cell : List ℕ) → Disturbs text rs (name_in text events b) (name_in text events a) cell → ⊥)

-- the relation is what the records of the table's text say
abbrev pub ByRecords : List ℕ → Table → (ℕ → ℕ → Bool) → Type 0
ByRecords text t relation =
    (rs : List (List Field)) → Tabulates text rs t → (a b : ℕ) → Decides (relation a b) (Undisturbed text rs t.events a b)
