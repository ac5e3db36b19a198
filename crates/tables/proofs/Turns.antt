-- The records of a table, added one after another until none is left.
use Rattle.std.proofs.Common.{◌≡◌, ℕ, zero, suc, ◌-◌, ◌<◌, ◌≤◌, List, [], ◌∷◌, length, Some, None, Ok, Err, Option, Result, sym, refl, ap, ◌∙◌, arith}
use Rattle.lines.specs.declared.fault.LinesFault.{LinesFault}
use Rattle.lines.specs.declared.field.Field.{Field}
use Rattle.lines.specs.Reading.{next_record, fields_in, place_after}
use Rattle.lines.specs.Texts.{ReadsOn}
use Rattle.lines.proofs.Forward.{next_forward}
use Rattle.std.proofs.lemmas.Bool.{cond-true, le-leb}
use Rattle.tables.specs.declared.fault.NamesFault.{NamesFault}
use Rattle.tables.specs.declared.fault.NamesFault.TheVariants.{Lines}
use Rattle.tables.specs.Folding.{added_by, some_records, records_from}
use Rattle.tables.specs.Telling.{and_then}

pub and_then_same : {X Y : Type 0} (o : Result X NamesFault) (f g : X → Result Y NamesFault) → ((x : X) → f x ≡ g x)
    → and_then o f ≡ and_then o g
and_then_same (Ok x) f g h = h x
and_then_same (Err e) f g h = refl

pub ok_same : {X : Type 0} (x y : X) → ◌≡◌ {A = Result X NamesFault} (Ok x) (Ok y) → x ≡ y
ok_same x y e = cc

-- what came of both
pub and_then_made : {X Y : Type 0} (o : Result X NamesFault) (k : X → Result Y NamesFault) (y : Y) → and_then o k ≡ Ok y
    → (x : X) × (o ≡ Ok x) × (k x ≡ Ok y)
and_then_made (Ok x) k y e = (x, refl, e)
and_then_made (Err f) k y e = let z : ◌≡◌ {A = ℕ} 0 1 = cc in absurd (omega arith)

-- records that are in hand, added one after another
abbrev pub add_all : {S : Type 0} → (List Field → S → Result S NamesFault) → List (List Field) → S → Result S NamesFault
add_all add [] s = Ok s
add_all add (r ∷ rs) s = and_then (add r s) (add_all add rs)

-- a reading by its fields alone
pub read_some : (place : ℕ) (o : Result (Option (List Field × ℕ)) LinesFault) (fields : List Field) → Ok (Some fields) ≡ fields_in o
    → o ≡ Ok (Some (fields, place_after place o))
read_some place (Ok None) fields e = cc
read_some place (Ok (Some read)) fields e =
    let f : fields ≡ read.0 = cc in ap (λ (x : List Field). Ok (Some (x, read.1))) (sym f)
read_some place (Err f) fields e = cc

read_fault : (o : Result (Option (List Field × ℕ)) LinesFault) (f : LinesFault) → Err f ≡ fields_in o → o ≡ Err f
read_fault (Ok None) f e = cc
read_fault (Ok (Some read)) f e = cc
read_fault (Err g) f e = cc

module _ {S : Type 0} (width : ℕ) (add : List Field → S → Result S NamesFault) (text : List ℕ) where
  none_left : (place : ℕ) → length text ≤ place → next_record width text place ≡ Ok None
  none_left place h = cond-true _ _ _ (le-leb _ _ h)

  -- what comes behind a reading matters only behind its place
  added_same : (place : ℕ) (s : S) (f g : ℕ → S → Result S NamesFault)
      → ((behind : ℕ) (u : S) → place < behind → f behind u ≡ g behind u)
      → (o : Result (Option (List Field × ℕ)) LinesFault) → next_record width text place ≡ o
      → added_by width add text s f o ≡ added_by width add text s g o
  added_same place s f g h (Ok None) e = refl
  added_same place s f g h (Ok (Some read)) e =
      and_then_same (add read.0 s) (f read.1) (g read.1)
      (λ u. h read.1 u (next_forward width text place read.0 read.1 e).0)
  added_same place s f g h (Err x) e = refl

  -- more turns than there are bytes left change nothing
  same_turns : (m n place : ℕ) (s : S) → length text - place ≤ m → length text - place ≤ n
      → some_records width add text m place s ≡ some_records width add text n place s
  same_turns zero zero place s h k = refl
  same_turns zero (suc n) place s h k =
      sym (ap (added_by width add text s (some_records width add text n)) (none_left place (omega arith)))
  same_turns (suc m) zero place s h k =
      ap (added_by width add text s (some_records width add text m)) (none_left place (omega arith))
  same_turns (suc m) (suc n) place s h k =
      added_same place s (some_records width add text m) (some_records width add text n)
      (λ behind u b. same_turns m n behind u (omega arith) (omega arith)) (next_record width text place) refl

  -- one reading, and then what is left
  pub records_next : (place : ℕ) (s : S)
      → records_from width add text place s ≡ added_by width add text s (records_from width add text) (next_record width text place)
  records_next place s = go (length text - place) refl
    where
      go : (n : ℕ) → length text - place ≡ n
          → some_records width add text n place s ≡ added_by width add text s (records_from width add text) (next_record width text place)
      go zero e = sym (ap (added_by width add text s (records_from width add text)) (none_left place (omega arith)))
      go (suc n) e =
          added_same place s (some_records width add text n) (records_from width add text)
          (λ behind u b. same_turns n (length text - behind) behind u (omega arith) (omega arith)) (next_record width text place) refl

  pub records_some : (place : ℕ) (s : S) (fields : List Field) → Ok (Some fields) ≡ fields_in (next_record width text place)
      → records_from width add text place s
      ≡ and_then (add fields s) (records_from width add text (place_after place (next_record width text place)))
  records_some place s fields e =
      records_next place s
      ∙ ap (added_by width add text s (records_from width add text)) (read_some place (next_record width text place) fields e)

  pub records_fault : (place : ℕ) (s : S) (f : LinesFault) → Err f ≡ fields_in (next_record width text place)
      → records_from width add text place s ≡ Err (Lines f)
  records_fault place s f e =
      records_next place s
      ∙ ap (added_by width add text s (records_from width add text)) (read_fault (next_record width text place) f e)

  -- a turn over a text that is known to be this one
  module _ (bs : List ℕ) (same : bs ≡ text) (place : ℕ) (s : S) where
    pub turn_fault : (f : LinesFault) → Err f ≡ fields_in (next_record width bs place) → records_from width add text place s ≡ Err (Lines f)
    turn_fault f e = records_fault place s f (e ∙ ap (λ (xs : List ℕ). fields_in (next_record width xs place)) same)

    module _ (fields : List Field) (e : Ok (Some fields) ≡ fields_in (next_record width bs place)) where
      pub turn_some : records_from width add text place s
          ≡ and_then (add fields s) (records_from width add text (place_after place (next_record width bs place)))
      turn_some =
          records_some place s fields (e ∙ ap (λ (xs : List ℕ). fields_in (next_record width xs place)) same)
          ∙ ap (λ (xs : List ℕ). and_then (add fields s) (records_from width add text (place_after place (next_record width xs place)))) (sym same)

      pub turn_on : (u : S) (behind : ℕ) → add fields s ≡ Ok u → behind ≡ place_after place (next_record width bs place)
          → records_from width add text behind u ≡ records_from width add text place s
      turn_on u behind a b =
          ap (λ (p : ℕ). records_from width add text p u) b
          ∙ sym (turn_some ∙ ap (λ (o : Result S NamesFault). and_then o (records_from width add text (place_after place (next_record width bs place)))) a)

  read_on : (n place : ℕ) (s u : S) → length text - place ≤ n → (o : Result (Option (List Field × ℕ)) LinesFault)
      → next_record width text place ≡ o → added_by width add text s (records_from width add text) o ≡ Ok u
      → (rs : List (List Field)) × ReadsOn width text place rs × (add_all add rs s ≡ Ok u)
  read_on n place s u h (Ok None) e f = ([], e, f)
  read_on zero place s u h (Ok (Some read)) e f = absurd (omega (arith, next_forward width text place read.0 read.1 e))
  read_on (suc n) place s u h (Ok (Some read)) e f =
      let p = and_then_made (add read.0 s) (records_from width add text read.1) u f in
      let k : length text - read.1 ≤ n = omega (arith, next_forward width text place read.0 read.1 e) in
      let more = read_on n read.1 p.0 u k (next_record width text read.1) refl (sym (records_next read.1 p.0) ∙ p.2) in
      (read.0 ∷ more.0, (read.1, e, more.1), ap (λ (o : Result S NamesFault). and_then o (add_all add more.0)) p.1 ∙ more.2)
  read_on n place s u h (Err x) e f = let z : ◌≡◌ {A = ℕ} 0 1 = cc in absurd (omega arith)

  -- what the records from a place on add is what a list of records adds, which the text gives from there
  pub records_read : (place : ℕ) (s u : S) → records_from width add text place s ≡ Ok u
      → (rs : List (List Field)) × ReadsOn width text place rs × (add_all add rs s ≡ Ok u)
  records_read place s u e =
      read_on (length text - place) place s u (omega arith) (next_record width text place) refl (sym (records_next place s) ∙ e)
