-- The pairs of processes that an apart list lists.
use Rattle.std.specs.Prelude.{ℕ, ◌<◌, Bool, cond, ◌&&◌, List, [], ◌∷◌, ◌++◌, length, drop, Ok, Err, codes, Result, ◌==◌, nat_lt, slice_index_or}
use Rattle.lines.specs.declared.fault.LinesFault.TheVariants.{TooLong}
use Rattle.lines.specs.declared.field.Field.{Field}
use Rattle.std.specs.declared.cmp.Ordering.{Ordering}
use Rattle.std.specs.BTreeSet.{insert_key}
use Rattle.std.specs.Set.{is_member}
use Rattle.ordered.specs.Numbers.{pair_order}
use Rattle.tables.specs.declared.fault.ApartFault.{ApartFault}
use Rattle.tables.specs.declared.fault.ApartFault.TheVariants.{Names, ShortStore}
use Rattle.tables.specs.declared.fault.NamesFault.{NamesFault}
use Rattle.tables.specs.declared.fault.NamesFault.TheVariants.{Lines, WithItself, Again}
use Rattle.tables.specs.Entering.{Table}
use Rattle.tables.specs.Folding.{records_from}
use Rattle.tables.specs.Heading.{opened_by}
use Rattle.tables.specs.Knowing.{known_in}
use Rattle.tables.specs.Numbering.{no_field}
use Rattle.tables.specs.Telling.{and_then}

abbrev pub Pair : Type 0
Pair = ℕ × ℕ

-- pairs by the first number, and then by the second
abbrev pub pair_cmp : Pair → Pair → Ordering
pair_cmp = pair_order

abbrev pub pair_eq : Pair → Pair → Bool
pair_eq x y = x.0 == y.0 && x.1 == y.1

-- two processes as a pair, the lower number first
abbrev pub as_pair : ℕ → ℕ → Pair
as_pair p q = cond (nat_lt p q) (p, q) (q, p)

-- the pairs with one more, of two processes that are not paired yet; a fault stands at place
abbrev pub with_pair : ℕ → ℕ → ℕ → List Pair → Result (List Pair) NamesFault
with_pair place p q pairs =
    cond (p == q) (Err (WithItself place))
    (cond (is_member pair_eq pairs (as_pair p q)) (Err (Again place)) (Ok (insert_key pair_cmp pairs (as_pair p q))))

-- a record: two processes of the event table, whose text is table
abbrev pub add_pair : List ℕ → Table → List ℕ → List Field → List Pair → Result (List Pair) NamesFault
add_pair table t text fields pairs =
    and_then (known_in table t.processes text (slice_index_or fields 0 no_field)) (λ p.
    and_then (known_in table t.processes text (slice_index_or fields 1 no_field)) (λ q.
    with_pair (slice_index_or fields 1 no_field).start p q pairs))

abbrev pub apart_header : List (List ℕ)
apart_header = codes "left" ∷ codes "right" ∷ []

-- at most 8,192 bytes, the header, and then the records one after another
abbrev pub pairs_in : List ℕ → Table → List ℕ → Result (List Pair) NamesFault
pairs_in table t text =
    and_then (opened_by 8192 apart_header text) (λ place.
    records_from 2 (add_pair table t text) text place [])

-- a fault of the names, held whole
abbrev pub raised : {X : Type 0} → Result X NamesFault → Result X ApartFault
raised (Ok x) = Ok x
raised (Err f) = Err (Names f)

-- the pairs of an apart list that is read for a store of so many places; a store of fewer than 120 is refused next to the length
abbrev pub apart_list : ℕ → List ℕ → Table → List ℕ → Result (List Pair) ApartFault
apart_list room table t text =
    cond (nat_lt 8192 (length text)) (Err (Names (Lines TooLong)))
    (cond (nat_lt room 120) (Err ShortStore) (raised (pairs_in table t text)))

-- how many pairs there are
abbrev pub counted : Result (List Pair) ApartFault → Result ℕ ApartFault
counted (Ok pairs) = Ok (length pairs)
counted (Err f) = Err f

-- the store with the pairs at its front; a refusal leaves it
abbrev pub stored : Result (List Pair) ApartFault → List Pair → List Pair
stored (Ok pairs) store = pairs ++ drop (length pairs) store
stored (Err f) store = store

-- a pair of two of the first 16 processes
abbrev pub OfFew : Pair → Type 0
OfFew x = (x.0 < x.1) × (x.1 < 16)
