-- Events whose processes are apart, by a list of pairs of processes.
use Rattle.std.specs.Prelude.{ℕ, ◌<◌, Bool, false, not, ◌&&◌, ◌||◌, ◌⊎◌, List, length, Some, None, Decides, Option, ◌==◌, ◌≢◌}
use Rattle.lines.specs.declared.field.Field.{Field}
use Rattle.std.specs.List.{list_any, Contains}
use Rattle.tables.specs.Entering.{Table}
use Rattle.tables.specs.Rowing.{row_of, process_of}
use Rattle.tables.specs.Listing.{ListsBoth, ListsApart}
use Rattle.tables.specs.Tabulating.{row_in}

-- the pair is one of these
abbrev pub has_pair : ℕ → ℕ → List (ℕ × ℕ) → Bool
has_pair p q pairs = list_any (λ x. x.0 == p && x.1 == q) pairs

-- the one way or the other
abbrev pub listed : ℕ → ℕ → List (ℕ × ℕ) → Bool
listed p q pairs = has_pair p q pairs || has_pair q p pairs

-- two processes are apart
abbrev pub parted_from : List (ℕ × ℕ) → ℕ → Option ℕ → Bool
parted_from pairs p None = false
parted_from pairs p (Some q) = not (p == q) && listed p q pairs

abbrev pub parted : List (ℕ × ℕ) → Option ℕ → Option ℕ → Bool
parted pairs None o = false
parted pairs (Some p) o = parted_from pairs p o

-- the processes of two events are apart
abbrev pub apart_by_processes : Table → List (ℕ × ℕ) → ℕ → ℕ → Bool
apart_by_processes t pairs a b = parted pairs (process_of (row_of t.rows a)) (process_of (row_of t.rows b))

-- both are events, their processes differ, and stand among the pairs as a pair, the one way or the other
abbrev pub Parted : Table → List (ℕ × ℕ) → ℕ → ℕ → Type 0
Parted t pairs a b =
    (a < length t.events) × (b < length t.events) × ((row_in t a).process ≢ (row_in t b).process)
    × (Contains pairs ((row_in t a).process, (row_in t b).process) ⊎ Contains pairs ((row_in t b).process, (row_in t a).process))

-- the relation is what the pairs say
abbrev pub ByPairs : Table → List (ℕ × ℕ) → (ℕ → ℕ → Bool) → Type 0
ByPairs t pairs relation = (a b : ℕ) → Decides (relation a b) (Parted t pairs a b)

-- both are events, their processes differ, and a record of the list names the two processes, the one way or the other
abbrev pub SaidApart : List ℕ → Table → List ℕ → List (List Field) → ℕ → ℕ → Type 0
SaidApart table t text rs a b =
    (a < length t.events) × (b < length t.events) × ((row_in t a).process ≢ (row_in t b).process)
    × ListsBoth table t text (row_in t a).process (row_in t b).process rs

-- the relation is what the records of an apart list say, if the pairs are those of the list
abbrev pub ByList : List ℕ → Table → List (ℕ × ℕ) → (ℕ → ℕ → Bool) → Type 0
ByList table t pairs relation =
    (text : List ℕ) (rs : List (List Field)) → ListsApart table t text rs pairs
    → (a b : ℕ) → Decides (relation a b) (SaidApart table t text rs a b)
