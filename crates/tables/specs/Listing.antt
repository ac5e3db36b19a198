-- What an apart list says of its text: the law above the definitions by which it is read.
use Rattle.std.specs.Prelude.{◌≡◌, ℕ, ◌<◌, ◌≤◌, ◌⊎◌, ◌↔◌, List, [], ◌∷◌, length, Some, codes, Option, slice_index_or}
use Rattle.lines.specs.declared.field.Field.{Field}
use Rattle.lines.specs.Fields.{bytes_of}
use Rattle.lines.specs.Texts.{Accepted}
use Rattle.std.specs.List.{AllByRecursion, Contains}
use Rattle.std.specs.List.Sorted.{IsStrictlySortedBy}
use Rattle.tables.specs.Entering.{Table}
use Rattle.tables.specs.Numbering.{no_field, number_of}
use Rattle.tables.specs.Pairing.{Pair, pair_cmp}
use Rattle.tables.specs.Tabulating.{names_of}

-- table is the text of the event table, and text that of the apart list
module _ (table : List ℕ) (t : Table) (text : List ℕ) where
  -- the numbers of the processes that a record names
  abbrev pub left_of : List Field → Option ℕ
  left_of r = number_of table t.processes (bytes_of text (slice_index_or r 0 no_field))

  abbrev pub right_of : List Field → Option ℕ
  right_of r = number_of table t.processes (bytes_of text (slice_index_or r 1 no_field))

  -- a record names both processes, in either order
  abbrev pub NamesBoth : ℕ → ℕ → List Field → Type 0
  NamesBoth p q r = ((left_of r ≡ Some p) × (right_of r ≡ Some q)) ⊎ ((left_of r ≡ Some q) × (right_of r ≡ Some p))

  -- some record does
  abbrev pub ListsBoth : ℕ → ℕ → List (List Field) → Type 0
  ListsBoth p q [] = ⊥
  ListsBoth p q (r ∷ rs) = NamesBoth p q r ⊎ ListsBoth p q rs

  -- the pairs are what the records say
  pub record ListsApart (rs : List (List Field)) (pairs : List Pair) : Type 0 where
    -- each once, in rising order
    pub rising : IsStrictlySortedBy pair_cmp pairs
    -- of two processes of the table, the lower number first
    pub within : AllByRecursion (λ x. (x.0 < x.1) × (x.1 < length t.processes)) pairs
    -- just those that a record lists
    pub listed : (p q : ℕ) → p < q → Contains pairs (p, q) ↔ ListsBoth p q rs
    pub few : length pairs ≤ 120

  -- the text is read to its end as a header and records, and the pairs are what the records say
  unfoldable pub Apart : List Pair → Type 0
  Apart pairs =
      (header : List Field) × (rs : List (List Field)) × Accepted 2 8192 text (header ∷ rs)
      × (names_of text header ≡ codes "left" ∷ codes "right" ∷ [])
      × ListsApart rs pairs
