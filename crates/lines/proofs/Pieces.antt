-- The bytes of the fields that commas part, and the fields that commas join.
use Rattle.std.proofs.Common.{◌≡◌, ℕ, ◌+◌, ◌-◌, ◌<◌, true, false, cond, not, eqb, List, [], ◌∷◌, ◌++◌, map, length, take, drop, sym, refl, ap, ◌∙◌, arith}
use lib.Seq.{append_snoc, drop-append-add}
use Rattle.std.proofs.ByRecursion.{All-append, All-push, All-weaker}
use Rattle.std.proofs.lemmas.List.{append_assoc, append-nil, drop-drop, length_push, take_at}
use Rattle.std.proofs.lemmas.Bool.{and_from, and_parts, cond_both, cond-false, eqb-true, not_from_false, not-true}
use Rattle.std.specs.List.{AllByRecursion}
use Rattle.lines.specs.Fields.{bytes_of, between, parted}
use Rattle.lines.specs.Scanning.{in_record, in_field}
use Rattle.lines.specs.Texts.{FieldBytes, Row, after_comma, commas}

-- the bytes between commas, with `front` before the first
abbrev pub pieces : List ℕ → List ℕ → List (List ℕ)
pieces front [] = front ∷ []
pieces front (b ∷ bs) = cond (eqb b 44) (front ∷ pieces [] bs) (pieces (front ++ (b ∷ [])) bs)

pub drop_behind : (text front tail : List ℕ) (start n : ℕ) → drop start text ≡ front ++ tail
    → drop (start + (length front + n)) text ≡ drop n tail
drop_behind text front tail start n e =
    sym (drop-drop (length front + n) start text) ∙ ap (drop (length front + n)) e ∙ drop-append-add front tail n

-- the fields hold the pieces
pub bytes_parted : (text front bytes tail : List ℕ) (start at : ℕ) → drop start text ≡ front ++ (bytes ++ tail)
    → at ≡ start + length front → map (bytes_of text) (parted 44 start at bytes) ≡ pieces front bytes
bytes_parted text front [] tail start at e a =
    ap (λ f. f ∷ []) (ap (take (at - start)) e ∙ take_at front tail (at - start) (omega arith))
bytes_parted text front (b ∷ bs) tail start at e a =
    let first : bytes_of text (between start at) ≡ front = ap (take (at - start)) e ∙ take_at front (b ∷ (bs ++ tail)) (at - start) (omega arith) in
    let place : at + 1 ≡ start + (length front + 1) = omega arith in
    let next : map (bytes_of text) (parted 44 (at + 1) (at + 1) bs) ≡ pieces [] bs =
    bytes_parted text [] bs tail (at + 1) (at + 1) (ap (λ k. drop k text) place ∙ drop_behind text front (b ∷ (bs ++ tail)) start 1 e) (omega arith) in
    let on : map (bytes_of text) (parted 44 start (at + 1) bs) ≡ pieces (front ++ (b ∷ [])) bs =
    bytes_parted text (front ++ (b ∷ [])) bs tail start (at + 1) (e ∙ sym (append_snoc front b (bs ++ tail))) (omega (arith, length_push front b)) in
    elim (eqb b 44) as (λ t. map (bytes_of text) (cond t (between start at ∷ parted 44 (at + 1) (at + 1) bs) (parted 44 start (at + 1) bs)) ≡ cond t (front ∷ pieces [] bs) (pieces (front ++ (b ∷ [])) bs)) [ true ↦ cc | false ↦ on ]

after_pieces : (front bytes : List ℕ) → after_comma (pieces front bytes) ≡ 44 ∷ (front ++ bytes)
after_pieces front [] = refl
after_pieces front (b ∷ bs) =
    cond_both (eqb b 44) _ _ (λ fs. after_comma fs ≡ 44 ∷ (front ++ (b ∷ bs)))
    (λ e. ap (λ xs. 44 ∷ (front ++ xs)) (after_pieces [] bs ∙ ap (λ k. k ∷ bs) (sym (eqb-true b 44 e))))
    (λ _. after_pieces (front ++ (b ∷ [])) bs ∙ ap (λ xs. 44 ∷ xs) (append_snoc front b bs))

commas_after : (fs : List (List ℕ)) (bytes : List ℕ) → after_comma fs ≡ 44 ∷ bytes → commas fs ≡ bytes
commas_after [] bytes e = cc
commas_after (f ∷ fs) bytes e = cc

-- commas join the pieces to the bytes again
pub commas-pieces : (bytes : List ℕ) → commas (pieces [] bytes) ≡ bytes
commas-pieces bytes = commas_after (pieces [] bytes) bytes (after_pieces [] bytes)

pub pieces_field : (front bytes : List ℕ) → FieldBytes front → AllByRecursion (λ b. in_record b ≡ true) bytes
    → AllByRecursion FieldBytes (pieces front bytes)
pieces_field front [] h k = (h, tt)
pieces_field front (b ∷ bs) h k =
    cond_both (eqb b 44) _ _ (AllByRecursion FieldBytes)
    (λ _. (h, pieces_field [] bs tt k.1))
    (λ e. pieces_field (front ++ (b ∷ [])) bs (All-push (λ c. in_field c ≡ true) front b h (and_from (in_record b) (not (eqb b 44)) k.0 (not_from_false (eqb b 44) e))) k.1)

-- no comma parts a field
pieces_through : (front f rest : List ℕ) → FieldBytes f → pieces front (f ++ rest) ≡ pieces (front ++ f) rest
pieces_through front [] rest h = ap (λ xs. pieces xs rest) (sym (append-nil front))
pieces_through front (b ∷ bs) rest h =
    cond-false (eqb b 44) _ _ (not-true (eqb b 44) (and_parts (in_record b) (not (eqb b 44)) h.0).1)
    ∙ pieces_through (front ++ (b ∷ [])) bs rest h.1
    ∙ ap (λ xs. pieces xs rest) (append_assoc front (b ∷ []) bs)

pieces-commas : (f : List ℕ) (fs : List (List ℕ)) → AllByRecursion FieldBytes (f ∷ fs) → pieces [] (commas (f ∷ fs)) ≡ f ∷ fs
pieces-commas f [] h = pieces_through [] f [] h.0
pieces-commas f (g ∷ fs) h =
    pieces_through [] f (after_comma (g ∷ fs)) h.0 ∙ ap (λ ps. f ∷ ps) (pieces-commas g fs h.1)

-- the pieces of a row's text are the row
pub pieces_row : (width : ℕ) (fs : List (List ℕ)) → 0 < width → Row width fs → pieces [] (commas fs) ≡ fs
pieces_row width [] h r = absurd (omega (arith, r.0))
pieces_row width (f ∷ fs) h r = pieces-commas f fs r.1

record_bytes : (f : List ℕ) → FieldBytes f → AllByRecursion (λ b. in_record b ≡ true) f
record_bytes f h =
    All-weaker (λ b. in_field b ≡ true) (λ b. in_record b ≡ true) (λ b e. (and_parts (in_record b) (not (eqb b 44)) e).0) f h

after_record : (fs : List (List ℕ)) → AllByRecursion FieldBytes fs → AllByRecursion (λ b. in_record b ≡ true) (after_comma fs)
after_record [] h = tt
after_record (f ∷ fs) h =
    (refl, All-append (λ b. in_record b ≡ true) f (after_comma fs) (record_bytes f h.0) (after_record fs h.1))

pub commas_record : (fs : List (List ℕ)) → AllByRecursion FieldBytes fs → AllByRecursion (λ b. in_record b ≡ true) (commas fs)
commas_record [] h = tt
commas_record (f ∷ fs) h = All-append (λ b. in_record b ≡ true) f (after_comma fs) (record_bytes f h.0) (after_record fs h.1)
