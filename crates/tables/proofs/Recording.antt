-- What records add to a table, one after another.
use Rattle.std.proofs.Common.{◌≡◌, ℕ, true, List, [], ◌∷◌, ◌++◌, map, get_or, Some, Ok, Result, refl, ap, ◌∙◌, subst, inl, inr, arith}
use Rattle.lines.specs.declared.field.Field.{Field}
use Rattle.lines.specs.Fields.{bytes_of}
use Rattle.std.proofs.lemmas.Slice.Eq.{bytes_eq-Decides}
use Rattle.std.proofs.lemmas.Bool.{cond_both, false≢true, or_cases, or_left, or_right}
use Rattle.std.proofs.lemmas.List.Elements.{All-nil, All-cons}
use Rattle.std.specs.List.{All}
use Rattle.tables.specs.declared.fault.NamesFault.{NamesFault}
use Rattle.tables.specs.declared.row.Access.{Access}
use Rattle.tables.specs.declared.row.Access.TheVariants.{Read, Write}
use Rattle.tables.specs.Naming.{is_name, named}
use Rattle.tables.specs.Numbering.{no_field, number_of, numbered}
use Rattle.tables.specs.Entering.{Table, with_events, settled, add_event, add_cell, add_each, add_cells, add_record}
use Rattle.tables.specs.Tabulating.{names_of, event_in, process_in, cells_of, list_field, all_cells, one_of, Lists}
use Rattle.tables.proofs.Adding.{cell_adds}
use Rattle.tables.proofs.Growing.{Whole, Ran, Listing, Nothing, Adds, adds_on, adds_none, ran_on}
use Rattle.tables.proofs.Numbers.{same_true, numbered_is}
use Rattle.tables.proofs.Settling.{Settled, settled_is}
use Rattle.tables.proofs.Turns.{ok_same, and_then_made, add_all}

named_true : (text : List ℕ) (f : Field) (place : ℕ) (u : Unit {0}) → named text f place ≡ Ok u → is_name (bytes_of text f) ≡ true
named_true text f place u =
    cond_both (is_name (bytes_of text f)) _ _ (λ (o : Result (Unit {0}) NamesFault). o ≡ Ok u → is_name (bytes_of text f) ≡ true)
    (λ t _. t) (λ _ e. let z : ◌≡◌ {A = ℕ} 0 1 = cc in absurd (omega arith))

-- what one event lists in one way
abbrev OfEvent : List ℕ → Access → List (List ℕ) → Listing
OfEvent x access cells a y z = (a ≡ access) × (x ≡ y) × (one_of z cells ≡ true)

-- what a record lists
abbrev OfRecord : List ℕ → List Field → Listing
OfRecord text r a x y = (event_in text r ≡ x) × (one_of y (cells_of text a r) ≡ true)

module _ (text : List ℕ) (x : List ℕ) (n : ℕ) (access : Access) (place : ℕ) where
  cell_added_lem : (cell : Field) (t u : Table) → Whole text t → number_of text t.events x ≡ Some n
      → add_cell text n access place cell t ≡ Ok u
      → Adds text t u [] [] (bytes_of text cell ∷ []) (λ a y z. (a ≡ access) × (x ≡ y) × (bytes_of text cell ≡ z))
  cell_added_lem cell t u w known e =
      let p = and_then_made (named text cell place) _ u e in
      let q = and_then_made (numbered text t.cells cell 64 place) _ u p.2 in
      subst (λ v. Adds text t v [] [] (bytes_of text cell ∷ []) (λ a y z. (a ≡ access) × (x ≡ y) × (bytes_of text cell ≡ z)))
      (ok_same _ u q.2)
      (cell_adds text t w x n known access cell q.0.0 q.0.1 (numbered_is text t.cells cell 64 place q.0 q.1) (named_true text cell place p.0 p.1))

  each_added : (cells : List Field) (t u : Table) → Whole text t → number_of text t.events x ≡ Some n
      → add_each text n access place cells t ≡ Ok u
      → Adds text t u [] [] (names_of text cells) (OfEvent x access (names_of text cells))
  each_added [] t u w known e =
      subst (λ v. Adds text t v [] [] [] (OfEvent x access [])) (ok_same t u e)
      (adds_none text t [] [] [] (OfEvent x access []) w refl refl refl (λ a y z l. false≢true l.2))
  each_added (cell ∷ cells) t u w known e =
      let p = and_then_made (add_cell text n access place cell t) _ u e in
      let here = cell_added_lem cell t p.0 w known p.1 in
      let more = each_added cells p.0 u here.whole (here.grows.events x n known) p.2 in
      adds_on text t p.0 u [] [] (bytes_of text cell ∷ []) [] [] (names_of text cells) _ _ (OfEvent x access (names_of text (cell ∷ cells))) here more
      (λ a y z. elim [ inl o ↦ (o.0, o.1, or_left _ _ ((bytes_eq-Decides (bytes_of text cell) z).1 o.2)) | inr o ↦ (o.0, o.1, or_right _ _ o.2) ])
      (λ a y z l. elim (or_cases _ _ l.2) [ inl s ↦ inl (l.0, l.1, same_true (bytes_of text cell) z s) | inr s ↦ inr (l.0, l.1, s) ])

module _ (text : List ℕ) where
  event_added_lem : (event process : Field) (t : Table) (p : ℕ × Table) → Whole text t → add_event text event process t ≡ Ok p
      → Settled text t p.1 (bytes_of text event) (bytes_of text process) p.0
  event_added_lem event process t p w e =
      let a = and_then_made (named text event event.start) _ p e in
      let b = and_then_made (numbered text t.events event 64 event.start) _ p a.2 in
      let c = and_then_made (named text process process.start) _ p b.2 in
      let d = and_then_made (settled text b.0.0 process (with_events t b.0.1)) _ p c.2 in
      let m = numbered_is text t.events event 64 event.start b.0 b.1 in
      subst (λ (v : ℕ × Table). Settled text t v.1 (bytes_of text event) (bytes_of text process) v.0) (ok_same (b.0.0, d.0) p d.2)
      (settled_is text t w event process b.0.0 b.0.1 m (named_true text event event.start a.0 a.1) (named_true text process process.start c.0 c.1) d.0 d.1)

  -- the cells that a record reads, and then those that it writes
  cells_added : (r : List Field) (n : ℕ) (t u v : Table) → Whole text t → number_of text t.events (event_in text r) ≡ Some n
      → add_cells text n Read (list_field Read r) t ≡ Ok u → add_cells text n Write (list_field Write r) u ≡ Ok v
      → Adds text t v [] [] (cells_of text Read r ++ cells_of text Write r) (OfRecord text r)
  cells_added r n t u v w known e f =
      let reads = each_added text (event_in text r) n Read (list_field Read r).start _ t u w known e in
      let writes = each_added text (event_in text r) n Write (list_field Write r).start _ u v reads.whole (reads.grows.events _ n known) f in
      adds_on text t u v [] [] (cells_of text Read r) [] [] (cells_of text Write r) _ _ (OfRecord text r) reads writes
      (λ a x y. elim [ inl o ↦ (o.1, ap (λ b. one_of y (cells_of text b r)) o.0 ∙ o.2) | inr o ↦ (o.1, ap (λ b. one_of y (cells_of text b r)) o.0 ∙ o.2) ])
      (elim [ Read ↦ λ x y l. inl (refl, l.0, l.1) | Write ↦ λ x y l. inr (refl, l.0, l.1) ])

  -- a record adds its event, its process and its cells
  record_added : (r : List Field) (t u : Table) → Whole text t → add_record text r t ≡ Ok u
      → Adds text t u (event_in text r ∷ []) (process_in text r ∷ []) (cells_of text Read r ++ cells_of text Write r) (OfRecord text r)
      × Ran text u (event_in text r) (process_in text r)
  record_added r t u w e =
      let p = and_then_made (add_event text (get_or r 0 no_field) (get_or r 1 no_field) t) _ u e in
      let q = and_then_made (add_cells text p.0.0 Read (list_field Read r) p.0.1) _ u p.2 in
      let s = event_added_lem (get_or r 0 no_field) (get_or r 1 no_field) t p.0 w p.1 in
      let cells = cells_added r p.0.0 p.0.1 q.0 u s.adds.whole s.number q.1 q.2 in (
        adds_on text t p.0.1 u (event_in text r ∷ []) (process_in text r ∷ []) [] [] [] (cells_of text Read r ++ cells_of text Write r) Nothing (OfRecord text r) (OfRecord text r) s.adds cells
            (λ a x y. elim [ inl o ↦ absurd o | inr o ↦ o ]) (λ a x y l. inr l),
        ran_on text p.0.1 u (event_in text r) (process_in text r) s.adds.whole cells.grows s.ran,
      )

  pub records_added : (rs : List (List Field)) (t u : Table) → Whole text t → add_all (add_record text) rs t ≡ Ok u
      → Adds text t u (map (event_in text) rs) (map (process_in text) rs) (all_cells text rs) (λ a x y. Lists text a x y rs)
      × All (λ r. Ran text u (event_in text r) (process_in text r)) rs
  records_added [] t u w e =
      (subst (λ v. Adds text t v [] [] [] Nothing) (ok_same t u e) (adds_none text t [] [] [] Nothing w refl refl refl (λ a x y l. l)), All-nil _)
  records_added (r ∷ rs) t u w e =
      let p = and_then_made (add_record text r t) _ u e in
      let here = record_added r t p.0 w p.1 in
      let more = records_added rs p.0 u here.0.whole p.2 in (
        adds_on text t p.0 u (event_in text r ∷ []) (process_in text r ∷ []) (cells_of text Read r ++ cells_of text Write r)
            (map (event_in text) rs) (map (process_in text) rs) (all_cells text rs) _ _ _ here.0 more.0 (λ a x y l. l) (λ a x y l. l),
        All-cons (λ s. Ran text u (event_in text s) (process_in text s)) r rs (ran_on text p.0 u (event_in text r) (process_in text r) here.0.whole more.0.grows here.1) more.1,
      )
