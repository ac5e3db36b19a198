-- What a row lists, with one cell more.
use Rattle.std.proofs.Common.{◌≡◌, ℕ, ◌<◌, Bool, true, false, ◌⊎◌, List, length, get_or, set, replicate, sym, refl, ap, ◌∙◌, inl, inr}
use Rattle.std.proofs.lemmas.List.{get_or_past, get_or-replicate, get_or-set_other, get_or-set_same, length-set}
use Rattle.std.proofs.lemmas.Bool.{both_ways, cases_eq, cases_lt}
use Rattle.tables.specs.declared.row.Access.{Access}
use Rattle.tables.specs.declared.row.Access.TheVariants.{Read, Write}
use Rattle.tables.specs.declared.row.EventRow.{EventRow}
use Rattle.tables.specs.Rowing.{empty_row, with_cell, lists}

abbrev pub marks : Access → EventRow → List Bool
marks Read row = row.reads.listed
marks Write row = row.writes.listed

mark_from : (bs : List Bool) (c k : ℕ) → get_or (set bs k true) c false ≡ true → (get_or bs c false ≡ true) ⊎ (c ≡ k)
mark_from bs c k e =
    elim (cases_eq c k) [ inl s ↦ inr s | inr s ↦ inl (sym (get_or-set_other bs k c true false s) ∙ e) ]

mark_old : (bs : List Bool) (c k : ℕ) → k < length bs → get_or bs c false ≡ true → get_or (set bs k true) c false ≡ true
mark_old bs c k h e =
    elim (cases_eq c k) [
      | inl s ↦ ap (λ n. get_or (set bs k true) n false) s ∙ get_or-set_same bs k true false h
      | inr s ↦ get_or-set_other bs k c true false s ∙ e
    ]

no_mark : (c : ℕ) → get_or (replicate 64 false) c false ≡ false
no_mark c =
    elim (cases_lt c 64) [ inl h ↦ get_or-replicate 64 c false false h | inr h ↦ get_or_past (replicate 64 false) c false h ]

pub empty_lists : (a : Access) (c p : ℕ) → lists a c (empty_row p) ≡ true → ⊥
empty_lists Read c p e = both_ways _ (no_mark c) e
empty_lists Write c p e = both_ways _ (no_mark c) e

pub empty_full : (a : Access) (p : ℕ) → length (marks a (empty_row p)) ≡ 64
empty_full Read p = refl
empty_full Write p = refl

module _ (k : ℕ) (row : EventRow) where
  pub with_process : (b : Access) → (with_cell b k row).process ≡ row.process
  with_process Read = refl
  with_process Write = refl

  pub with_full : (b a : Access) → length (marks a (with_cell b k row)) ≡ length (marks a row)
  with_full Read Read = length-set _ k true
  with_full Read Write = refl
  with_full Write Read = refl
  with_full Write Write = length-set _ k true

  pub with_from : (b a : Access) (c : ℕ) → lists a c (with_cell b k row) ≡ true → (lists a c row ≡ true) ⊎ ((a ≡ b) × (c ≡ k))
  with_from Read Read c e = elim (mark_from _ c k e) [ inl h ↦ inl h | inr h ↦ inr (refl, h) ]
  with_from Read Write c e = inl e
  with_from Write Read c e = inl e
  with_from Write Write c e = elim (mark_from _ c k e) [ inl h ↦ inl h | inr h ↦ inr (refl, h) ]

  pub with_old : (b a : Access) (c : ℕ) → k < length (marks b row) → lists a c row ≡ true → lists a c (with_cell b k row) ≡ true
  with_old Read Read c h e = mark_old _ c k h e
  with_old Read Write c h e = e
  with_old Write Read c h e = e
  with_old Write Write c h e = mark_old _ c k h e

  pub with_new : (b : Access) → k < length (marks b row) → lists b k (with_cell b k row) ≡ true
  with_new Read h = get_or-set_same _ k true false h
  with_new Write h = get_or-set_same _ k true false h
