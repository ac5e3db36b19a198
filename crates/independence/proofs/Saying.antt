-- Pairs that an apart list gave say what its records say.
use Rattle.std.proofs.Common.{◌≡◌, ℕ, ◌<◌, Bool, ◌⊎◌, List, [], ◌∷◌, length, inl, inr, ⊎_elim}
use Rattle.lines.specs.declared.field.Field.{Field}
use Rattle.std.proofs.lemmas.List.Elements.{All-contains, All-from_recursion}
use Rattle.std.proofs.lemmas.Bool.{cases_order}
use Rattle.std.specs.List.{Contains}
use Rattle.tables.specs.Entering.{Table}
use Rattle.tables.specs.Listing.{NamesBoth, ListsBoth, ListsApart}
use Rattle.tables.specs.Pairing.{Pair}
use Rattle.independence.specs.Parting.{ByPairs, ByList}

module _ (table : List ℕ) (t : Table) (text : List ℕ) where
  turned : (p q : ℕ) (r : List Field) → NamesBoth table t text p q r → NamesBoth table t text q p r
  turned p q r (inl h) = inr h
  turned p q r (inr h) = inl h

  lists_turned : (p q : ℕ) (rs : List (List Field)) → ListsBoth table t text p q rs → ListsBoth table t text q p rs
  lists_turned p q [] h = elim h [ ]
  lists_turned p q (r ∷ rs) (inl h) = inl (turned p q r h)
  lists_turned p q (r ∷ rs) (inr h) = inr (lists_turned p q rs h)

  module _ (rs : List (List Field)) (pairs : List Pair) (said : ListsApart table t text rs pairs) where
    abbrev Within : Pair → Type 0
    Within x = (x.0 < x.1) × (x.1 < length t.processes)

    lower_first : (p q : ℕ) → Contains pairs (p, q) → p < q
    lower_first p q h = (All-contains Within pairs (p, q) (All-from_recursion Within pairs said.within) h).0

    lists_has : (p q : ℕ) → p < q → ListsBoth table t text p q rs → Contains pairs (p, q)
    lists_has p q l h = (said.listed p q l).1 h

    has_lists : (p q : ℕ) → Contains pairs (p, q) → ListsBoth table t text p q rs
    has_lists p q h = (said.listed p q (lower_first p q h)).0 h

    either_lists : (p q : ℕ) → Contains pairs (p, q) ⊎ Contains pairs (q, p) → ListsBoth table t text p q rs
    either_lists p q = ⊎_elim (has_lists p q) (λ h. lists_turned q p rs (has_lists q p h))

    lists_either : (p q : ℕ) → (p ≡ q → ⊥) → ListsBoth table t text p q rs → Contains pairs (p, q) ⊎ Contains pairs (q, p)
    lists_either p q n h =
        ⊎_elim (λ e. absurd (n e))
        (⊎_elim (λ l. inl (lists_has p q l h)) (λ l. inr (lists_has q p l (lists_turned p q rs h))))
        (cases_order p q)

pub by_list : (table : List ℕ) (t : Table) (pairs : List Pair) (relation : ℕ → ℕ → Bool) → ByPairs t pairs relation
    → ByList table t pairs relation
by_list table t pairs relation by text rs said a b = (
  λ e. let m = (by a b).0 e in (m.0, m.1, m.2, either_lists table t text rs pairs said _ _ m.3),
  λ m. (by a b).1 (m.0, m.1, m.2, lists_either table t text rs pairs said _ _ m.2 m.3),
)
