-- The first of the parts that a separator makes, and those behind it.
use Rattle.std.proofs.Common.{◌≡◌, ℕ, ◌+◌, ◌<◌, ◌≤◌, Bor, eqb, List, [], ◌∷◌, length, drop, Some, None, Option, IfSome, sym, arith, nat_lt, length-drop}
use native.Mathlib.Nat.{add-sub_cancel_left}
use Rattle.std.specs.List.{position_or_len}
use Rattle.std.specs.Option.{is_some}
use Rattle.std.proofs.lemmas.List.{drop-drop}
use Rattle.std.proofs.lemmas.Bool.{ltb-true, ltb-false}
use Rattle.std.proofs.lemmas.Bool.Decides.{nat_tests}
use Rattle.lines.specs.Fields.{between, parted}
use Rattle.lines.specs.Parts.{parts_left}

module _ (separator : ℕ) where
  abbrev until : List ℕ → ℕ
  until bytes = position_or_len (λ b. eqb b separator) bytes

  first_of_more : (start at : ℕ) (bytes : List ℕ) → until bytes < length bytes
      → parted separator start at bytes
      ≡ between start (at + until bytes) ∷ parted separator (at + until bytes + 1) (at + until bytes + 1) (drop (until bytes + 1) bytes)
  first_of_more start at [] = λ h. absurd (omega arith)
  first_of_more start at (b ∷ bs) = λ h.
      let on = first_of_more start (at + 1) bs in
      grind (arith, nat_tests)

  only_one : (start at : ℕ) (bytes : List ℕ) → length bytes ≤ until bytes
      → parted separator start at bytes ≡ between start (at + until bytes) ∷ []
  only_one start at [] h = grind arith
  only_one start at (b ∷ bs) h = let on = only_one start (at + 1) bs in grind (arith, nat_tests)

-- what is left before and behind a part
pub part_taken : (text : Bor (List ℕ)) (separator start len : ℕ) (next : Option ℕ)
    → len ≡ until separator (drop start text.now)
    → is_some next ≡ nat_lt (start + len) (length text.now)
    → IfSome next (λ place. place ≡ start + len + 1)
    → parts_left record { text = text; start = Some start; separator = separator }
    ≡ record { start = start; len = len } ∷ parts_left record { text = text; start = next; separator = separator }
part_taken text separator start len None l s p =
    let few : length (drop start text.now) ≤ until separator (drop start text.now) = omega (arith, length-drop start text.now, ltb-false _ _ (sym s)) in
    let first = only_one separator start start (drop start text.now) few in
    let at = add-sub_cancel_left start len in
    cc
part_taken text separator start len (Some place) l s p =
    let more : until separator (drop start text.now) < length (drop start text.now) = omega (arith, length-drop start text.now, ltb-true _ _ (sym s)) in
    let first = first_of_more separator start start (drop start text.now) more in
    let at = add-sub_cancel_left start len in
    let rest = drop-drop (len + 1) start text.now in
    let on : start + (len + 1) ≡ place = omega arith in
    cc
