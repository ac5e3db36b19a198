-- What a header that is taken holds.
use Rattle.std.proofs.Common.{◌≡◌, ℕ, ◌+◌, ◌<◌, true, false, List, [], ◌∷◌, map, length, get_or, drop, Bor, Ok, Err, Result, sym, refl, ap, ◌∙◌, arith}
use Rattle.lines.specs.declared.fault.LinesFault.{LinesFault}
use Rattle.lines.specs.declared.field.Field.{Field}
use Rattle.lines.specs.Fields.{bytes_of}
use Rattle.lines.specs.Reading.{opened}
use Rattle.lines.proofs.Forward.{opened_width}
use Rattle.std.proofs.lemmas.Bool.{cond_both, cond-true, cond-false}
use Rattle.std.proofs.lemmas.List.{at_drop_more, get_or-map, length-map}
use Rattle.std.specs.Str.{bytes_eq}
use Rattle.tables.specs.declared.fault.NamesFault.{NamesFault}
use Rattle.tables.specs.declared.fault.NamesFault.TheVariants.{Header}
use Rattle.tables.specs.Heading.{headed, headed_by, opened_by}
use Rattle.tables.specs.Tabulating.{names_of}
use Rattle.tables.specs.Telling.{and_then, lifted}
use Rattle.tables.proofs.Numbers.{same_true}
use Rattle.tables.proofs.Turns.{and_then_made}

pub lifted_ok : {X : Type 0} (o : Result X LinesFault) (x : X) → lifted o ≡ Ok x → o ≡ Ok x
lifted_ok (Ok y) x e = cc
lifted_ok (Err f) x e = cc

pub headed_is : (text : List ℕ) (f : Field) (name : List ℕ) (u : Unit {0}) → headed text f name ≡ Ok u → bytes_of text f ≡ name
headed_is text f name u =
    cond_both (bytes_eq (bytes_of text f) name) _ _ (λ (o : Result (Unit {0}) NamesFault). o ≡ Ok u → bytes_of text f ≡ name)
    (λ t _. same_true (bytes_of text f) name t) (λ _ e. let z : ◌≡◌ {A = ℕ} 0 1 = cc in absurd (omega arith))

header_is : (text : List ℕ) (names : List (List ℕ)) (fs : List Field) (u : Unit {0}) → length fs ≡ length names
    → headed_by text names fs ≡ Ok u → names_of text fs ≡ names
header_is text [] [] u h e = refl
header_is text [] (f ∷ fs) u h e = absurd (omega arith)
header_is text (name ∷ names) [] u h e = absurd (omega arith)
header_is text (name ∷ names) (f ∷ fs) u h e =
    let a = and_then_made (headed text f name) _ u e in
    let here = headed_is text f name a.0 a.1 in
    let rest = header_is text names fs u (omega arith) a.2 in
    cc

-- one turn of the reading of a header, at a field and its name
module _ (text : List ℕ) (fs : List Field) (bs : List (Bor (List ℕ))) (i : ℕ) (f : Field) (b : Bor (List ℕ))
    (at : (i < length fs) × (i < length bs) × ((d : Field) → f ≡ get_or fs i d) × ((d : Bor (List ℕ)) → b ≡ get_or bs i d)) where
  abbrev names : List (List ℕ)
  names = map (λ (n : Bor (List ℕ)). n.now) bs

  -- what the header has to be from an index on
  abbrev from : ℕ → Result (Unit {0}) NamesFault
  from k = headed_by text (drop k names) (drop k fs)

  turn : from i ≡ and_then (headed text f b.now) (λ _. from (i + 1))
  turn =
      let name = ap (λ (n : Bor (List ℕ)). n.now) (at.3 b) ∙ sym (get_or-map (λ (n : Bor (List ℕ)). n.now) bs i b [] at.1) in
      at_drop_more (λ ns. headed_by text ns (drop i fs)) names i [] (omega (arith, at.1, length-map bs (λ (n : Bor (List ℕ)). n.now)))
      ∙ at_drop_more (λ gs. headed_by text (get_or names i [] ∷ drop (i + 1) names) gs) fs i f at.0
      ∙ ap (λ n. headed_by text (n ∷ drop (i + 1) names) (get_or fs i f ∷ drop (i + 1) fs)) (sym name)
      ∙ ap (λ g. headed_by text (b.now ∷ drop (i + 1) names) (g ∷ drop (i + 1) fs)) (sym (at.2 f))

  pub header_stops : bytes_eq (bytes_of text f) b.now ≡ false → from i ≡ Err (Header f.start)
  header_stops e = turn ∙ ap (λ (o : Result (Unit {0}) NamesFault). and_then o (λ _. from (i + 1))) (cond-false _ _ _ e)

  pub header_goes_on : bytes_eq (bytes_of text f) b.now ≡ true → from i ≡ from (i + 1)
  header_goes_on e = turn ∙ ap (λ (o : Result (Unit {0}) NamesFault). and_then o (λ _. from (i + 1))) (cond-true _ _ _ e)

-- a text that is taken begins with a header of the names
pub opened_is : (limit : ℕ) (names : List (List ℕ)) (text : List ℕ) (place : ℕ) → opened_by limit names text ≡ Ok place
    → (header : List Field) × (opened (length names) limit text ≡ Ok (header, place)) × (names_of text header ≡ names)
opened_is limit names text place e =
    let o = and_then_made (lifted (opened (length names) limit text)) _ place e in
    let h = and_then_made (headed_by text names o.0.0) _ place o.2 in
    let op = lifted_ok (opened (length names) limit text) o.0 o.1 in
    let at : o.0.1 ≡ place = let p = h.2 in cc in (
      o.0.0,
      op ∙ ap (λ (n : ℕ). Ok (o.0.0, n)) at,
      header_is text names o.0.0 h.0 (opened_width (length names) limit text o.0.0 o.0.1 op) h.1,
    )
