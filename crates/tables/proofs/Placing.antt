-- What reading an apart list answers and leaves.
use Rattle.std.proofs.Common.{◌≡◌, ℕ, List, [], ◌++◌, length, take, Ok, Result, sym, ap, ◌∙◌}
use Rattle.std.proofs.lemmas.List.{take_at}
use Rattle.tables.specs.declared.fault.NamesFault.{NamesFault}
use Rattle.tables.specs.Entering.{Table}
use Rattle.tables.specs.Folding.{records_from}
use Rattle.tables.specs.Heading.{opened_by}
use Rattle.tables.specs.Pairing.{Pair, add_pair, apart_header, pairs_in}
use Rattle.tables.specs.Telling.{and_then}

pub pairs_read : (table : List ℕ) (t : Table) (text : List ℕ) (pairs : List Pair) (place : ℕ) → opened_by 8192 apart_header text ≡ Ok place
    → records_from 2 (add_pair table t text) text place [] ≡ Ok pairs → pairs_in table t text ≡ Ok pairs
pairs_read table t text pairs place o r =
    ap (λ (x : Result ℕ NamesFault). and_then x (λ at. records_from 2 (add_pair table t text) text at [])) o ∙ r

-- what is put at the front of a store is the front of it
pub front_is : (pairs xs rest : List Pair) (n : ℕ) → xs ≡ pairs → n ≡ length pairs → take n (xs ++ rest) ≡ pairs
front_is pairs xs rest n is count = ap (λ (ys : List Pair). take n (ys ++ rest)) is ∙ take_at pairs rest n (sym count)
