-- Reading a log to its end gives the numbers of its records' names.
use Rattle.std.proofs.Common.{◌≡◌, ℕ, true, List, [], ◌∷◌, map, get_or, Some, None, Ok, Err, Option, Result, refl, ap, ◌∙◌, subst, arith}
use mathlib.Core.Bool.{Bool-set}
use mathlib.Core.Logic.{∥∥₁_elim}
use Rattle.lines.specs.declared.fault.LinesFault.{LinesFault}
use Rattle.lines.specs.declared.field.Field.{Field}
use Rattle.lines.specs.Fields.{bytes_of}
use Rattle.lines.specs.Reading.{next_record, fields_in, place_after}
use Rattle.lines.specs.Texts.{ReadsOn}
use Rattle.std.proofs.lemmas.Bool.{cond-true}
use Rattle.tables.specs.declared.fault.NamesFault.{NamesFault}
use Rattle.tables.specs.Entering.{Table}
use Rattle.tables.specs.Knowing.{known, known_in}
use Rattle.tables.specs.Logging.{event_read, next_event, LogsOn, number_in, Named, Logged}
use Rattle.tables.specs.Naming.{is_name}
use Rattle.tables.specs.Numbering.{no_field, number_of}
use Rattle.tables.specs.Tabling.{event_table}
use Rattle.tables.specs.Telling.{and_then}
use Rattle.tables.proofs.Known.{known_number}
use Rattle.tables.proofs.Numbers.{number_below, number_name}
use Rattle.tables.proofs.Tabulated.{table_says}
use Rattle.tables.proofs.Turns.{and_then_made, read_some}

event_none : (x : ℕ × ℕ) → ◌≡◌ {A = Result (Option (ℕ × ℕ)) NamesFault} (Ok (Some x)) (Ok None) → ⊥
event_none x e = let z : ◌≡◌ {A = ℕ} 0 1 = cc in omega arith

event_same : (x y : ℕ × ℕ) → ◌≡◌ {A = Result (Option (ℕ × ℕ)) NamesFault} (Ok (Some x)) (Ok (Some y)) → x ≡ y
event_same x y e = cc

module _ (table : List ℕ) (t : Table) (text : List ℕ) where
  -- a name that is refused
  pub next_fault : (place : ℕ) (fields : List Field) (f : NamesFault) → Ok (Some fields) ≡ fields_in (next_record 1 text place)
      → known_in table t.events text (get_or fields 0 no_field) ≡ Err f → next_event table t text place ≡ Err f
  next_fault place fields f r k =
      ap (event_read table t text) (read_some place (next_record 1 text place) fields r)
      ∙ ap (λ (o : Result ℕ NamesFault). and_then o (λ n. Ok (Some (n, place_after place (next_record 1 text place))))) k

  read_none : (o : Result (Option (List Field × ℕ)) LinesFault) → event_read table t text o ≡ Ok None → o ≡ Ok None
  read_none (Ok None) e = refl
  read_none (Ok (Some read)) e =
      let p = and_then_made (known_in table t.events text (get_or read.0 0 no_field)) _ None e in
      absurd (event_none (p.0, read.1) p.2)
  read_none (Err f) e = let z : ◌≡◌ {A = ℕ} 0 1 = cc in absurd (omega arith)

  read_event : (o : Result (Option (List Field × ℕ)) LinesFault) (event behind : ℕ) → event_read table t text o ≡ Ok (Some (event, behind))
      → (r : List Field) × (o ≡ Ok (Some (r, behind))) × (number_in table t text r ≡ Some event)
  read_event (Ok None) event behind e = let z : ◌≡◌ {A = ℕ} 0 1 = cc in absurd (omega arith)
  read_event (Ok (Some read)) event behind e =
      let p = and_then_made (known_in table t.events text (get_or read.0 0 no_field)) _ (Some (event, behind)) e in
      let same = event_same (p.0, read.1) (event, behind) p.2 in (
        read.0,
        ap (λ (x : ℕ × ℕ). Ok (Some (read.0, x.1))) same,
        known_number table t.events text (get_or read.0 0 no_field) p.0 p.1 ∙ ap (λ (x : ℕ × ℕ). Some x.0) same,
      )
  read_event (Err f) event behind e = let z : ◌≡◌ {A = ℕ} 0 1 = cc in absurd (omega arith)

  logs_named : (es : List ℕ) (place : ℕ) → LogsOn table t text place es → Named table t text place es
  logs_named [] place e = ([], read_none _ e, refl)
  logs_named (event ∷ es) place l =
      let r = read_event _ event l.0 l.1 in
      let more = logs_named es l.0 l.2 in
      let here = r.2 in
      let rest = more.2 in
      (r.0 ∷ more.0, (l.0, r.1, more.1), cc)

  module _ (exact : ∥ event_table table ≡ Ok t ∥₁) where
    -- what has a number is a name
    numbered_name : (x : List ℕ) (n : ℕ) → number_of table t.events x ≡ Some n → is_name x ≡ true
    numbered_name x n k =
        ∥∥₁_elim exact (Bool-set (is_name x) true)
        (λ e.
        subst (λ (y : List ℕ). is_name y ≡ true) (number_name table t.events x n k)
        ((table_says table t e).1.events.named n (number_below table t.events x n k)))

    is_known : (f : Field) (n : ℕ) → number_of table t.events (bytes_of text f) ≡ Some n → known_in table t.events text f ≡ Ok n
    is_known f n k =
        ap (λ (o : Result (Unit {0}) NamesFault). and_then o (λ _. known f.start (number_of table t.events (bytes_of text f))))
        (cond-true _ _ _ (numbered_name (bytes_of text f) n k))
        ∙ ap (known f.start) k

    named_logs : (rs : List (List Field)) (es : List ℕ) (place : ℕ) → ReadsOn 1 text place rs
        → map (number_in table t text) rs ≡ map (λ (n : ℕ). Some n) es → LogsOn table t text place es
    named_logs [] [] place l e = ap (event_read table t text) l
    named_logs [] (event ∷ es) place l e = let z : ◌≡◌ {A = ℕ} 0 1 = cc in absurd (omega arith)
    named_logs (r ∷ rs) [] place l e = let z : ◌≡◌ {A = ℕ} 0 1 = cc in absurd (omega arith)
    named_logs (r ∷ rs) (event ∷ es) place l e =
        let here : number_in table t text r ≡ Some event = cc in
        let rest : map (number_in table t text) rs ≡ map (λ (n : ℕ). Some n) es = cc in (
          l.0,
          ap (event_read table t text) l.1
              ∙ ap (λ (o : Result ℕ NamesFault). and_then o (λ n. Ok (Some (n, l.0)))) (is_known (get_or r 0 no_field) event here),
          named_logs rs es l.0 l.2 rest,
        )

    -- the law
    pub logged : (place : ℕ) → Logged table t text place
    unfolding Logged
    logged place es = (logs_named es place, λ n. named_logs n.0 es place n.1 n.2)
