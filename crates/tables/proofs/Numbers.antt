-- Names and their numbers.
use Rattle.std.proofs.Common.{◌≡◌, ℕ, zero, suc, ◌+◌, ◌<◌, ◌≤◌, Bool, true, false, cond, ◌||◌, leb, ◌⊎◌, List, [], ◌∷◌, ◌++◌, length, is_some, Some, None, Ok, Option, Result, sym, refl, ap, ◌∙◌, subst, inl, inr, add-zero, zero-add, arith}
use mathlib.Core.HLevel.{Discrete, hedberg}
use native.Mathlib.Decide.{ℕ_discrete}
use Rattle.lines.specs.declared.field.Field.{Field}
use Rattle.lines.specs.Fields.{bytes_of}
use Rattle.std.proofs.lemmas.List.Elements.{All-push}
use Rattle.std.proofs.lemmas.Slice.Eq.{bytes_eq-Decides}
use Rattle.std.proofs.lemmas.List.{append-nil, get_or_append_left, length-append, length_push, map_push}
use Rattle.std.proofs.lemmas.Bool.{cond_both, cond-true, cond-false, leb-false}
use Rattle.std.specs.List.{All, position_from}
use Rattle.std.proofs.lemmas.Iterator.Adapters.{position_from-zero}
use Rattle.std.proofs.lemmas.List.Quantifiers.{position-Some}
use Rattle.std.specs.Str.{bytes_eq}
use Rattle.tables.specs.declared.fault.NamesFault.{NamesFault}
use Rattle.tables.specs.Numbering.{no_field, number_of, enrolled, numbered}
use Rattle.tables.specs.Tabulating.{names_of, name_in, one_of, with_name, Numbers}
use Rattle.tables.proofs.Turns.{ok_same}

pub same_true : (xs ys : List ℕ) → bytes_eq xs ys ≡ true → xs ≡ ys
same_true xs ys = (bytes_eq-Decides xs ys).0

pub same_refl : (xs : List ℕ) → bytes_eq xs xs ≡ true
same_refl xs = (bytes_eq-Decides xs xs).1 refl

module _ (text : List ℕ) where
  abbrev is : List ℕ → Field → Bool
  is x f = bytes_eq (bytes_of text f) x

  by_turns : (fs : List Field) (x : List ℕ) → number_of text fs x ≡ position_from (is x) 0 fs
  by_turns fs x = position_from-zero (is x) fs

  -- more names behind leave a number as it is
  from_more : (n : ℕ) (fs gs : List Field) (x : List ℕ) (i : ℕ) → position_from (is x) n fs ≡ Some i
      → position_from (is x) n (fs ++ gs) ≡ Some i
  from_more n [] gs x i e = cc
  from_more n (f ∷ fs) gs x i e =
      (elim (bytes_eq (bytes_of text f) x) as (λ b.
      cond b (Some n) (position_from (is x) (n + 1) fs) ≡ Some i → cond b (Some n) (position_from (is x) (n + 1) (fs ++ gs)) ≡ Some i)
      [ true ↦ λ e. e | false ↦ λ e. from_more (n + 1) fs gs x i e ]) e

  -- a name that none of them is has its number among those behind
  from_none : (n : ℕ) (fs gs : List Field) (x : List ℕ) → position_from (is x) n fs ≡ None
      → position_from (is x) n (fs ++ gs) ≡ position_from (is x) (n + length fs) gs
  from_none n [] gs x e = rw add-zero
  from_none n (f ∷ fs) gs x e =
      (elim (bytes_eq (bytes_of text f) x) as (λ b.
      cond b (Some n) (position_from (is x) (n + 1) fs) ≡ None → cond b (Some n) (position_from (is x) (n + 1) (fs ++ gs)) ≡ position_from (is x) (n + suc (length fs)) gs) [
        | true ↦ λ e. cc
        | false ↦ λ e.
            let z : n + 1 + length fs ≡ n + suc (length fs) = omega arith in
            from_none (n + 1) fs gs x e ∙ ap (λ m. position_from (is x) m gs) z
      ]) e

  -- a name that stands among them has a number
  from_found : (n : ℕ) (fs : List Field) (i : ℕ) → i < length fs → (j : ℕ) × (position_from (is (name_in text fs i)) n fs ≡ Some j)
  from_found n [] i h = absurd (omega arith)
  from_found n (f ∷ fs) zero h = (n, cond-true _ _ _ (same_refl (bytes_of text f)))
  from_found n (f ∷ fs) (suc i) h =
      let k = from_found (n + 1) fs i (omega arith) in
      cond_both (bytes_eq (bytes_of text f) (name_in text fs i)) (Some n) (position_from (is (name_in text fs i)) (n + 1) fs)
      (λ (o : Option ℕ). (j : ℕ) × (o ≡ Some j)) (λ _. (n, refl)) (λ _. k)

  from_known : (n : ℕ) (fs : List Field) (x : List ℕ) → one_of x (names_of text fs) ≡ is_some (position_from (is x) n fs)
  from_known n [] x = refl
  from_known n (f ∷ fs) x =
      elim (bytes_eq (bytes_of text f) x) as (λ b. (b || one_of x (names_of text fs)) ≡ is_some (cond b (Some n) (position_from (is x) (n + 1) fs)))
      [ true ↦ refl | false ↦ from_known (n + 1) fs x ]

module _ (text : List ℕ) (fs : List Field) (x : List ℕ) where
  -- a number is below the count, and the name stands at it
  pub number_below : (i : ℕ) → number_of text fs x ≡ Some i → i < length fs
  number_below i e = (position-Some (is text x) fs i no_field e).0

  pub number_name : (i : ℕ) → number_of text fs x ≡ Some i → name_in text fs i ≡ x
  number_name i e = same_true _ x (position-Some (is text x) fs i no_field e).1

  pub number_more : (gs : List Field) (i : ℕ) → number_of text fs x ≡ Some i → number_of text (fs ++ gs) x ≡ Some i
  number_more gs i e = by_turns text (fs ++ gs) x ∙ from_more text 0 fs gs x i (sym (by_turns text fs x) ∙ e)

  pub known_number : one_of x (names_of text fs) ≡ is_some (number_of text fs x)
  known_number = from_known text 0 fs x ∙ ap is_some (sym (by_turns text fs x))

-- a number below the first names is theirs
pub number_front : (text : List ℕ) (fs : List Field) (x : List ℕ) (gs : List Field) (i : ℕ) → i < length fs
    → number_of text (fs ++ gs) x ≡ Some i → number_of text fs x ≡ Some i
number_front text fs x gs i h e =
    let k = from_found text 0 fs i h in
    let same : name_in text fs i ≡ x = ap (bytes_of text) (sym (get_or_append_left fs gs no_field i h)) ∙ number_name text (fs ++ gs) x i e in
    let f : number_of text fs x ≡ Some k.0 = ap (number_of text fs) (sym same) ∙ by_turns text fs (name_in text fs i) ∙ k.1 in
    f ∙ (sym (number_more text fs x gs k.0 f) ∙ e)

-- each number is that of its name
pub numbers_at : (limit : ℕ) (text : List ℕ) (appearing : List (List ℕ)) (fs : List Field) → Numbers limit text appearing fs
    → (n : ℕ) → n < length fs → number_of text fs (name_in text fs n) ≡ Some n
numbers_at limit text appearing fs ns n h =
    let k = from_found text 0 fs n h in
    let x = name_in text fs n in
    let e = by_turns text fs x ∙ k.1 in
    e ∙ ap Some (ns.distinct k.0 n (number_below text fs x k.0 e) h (number_name text fs x k.0 e))

discrete : Discrete (Option ℕ)
discrete None None = yes refl
discrete None (Some n) = no (λ e. let z : ◌≡◌ {A = ℕ} 0 1 = cc in omega arith)
discrete (Some m) None = no (λ e. let z : ◌≡◌ {A = ℕ} 0 1 = cc in omega arith)
discrete (Some m) (Some n) = elim (ℕ_discrete m n) [ yes e ↦ yes (ap Some e) | no d ↦ no (λ e. d (cc)) ]

-- so that a number also follows from what is known to hold without its proof, as a type's invariant is
pub number_prop : (o p : Option ℕ) → IsProp (o ≡ p)
number_prop = hedberg discrete

-- the name of a field has a number, and the names then
pub record Numbered (text : List ℕ) (names : List Field) (f : Field) (limit n : ℕ) (after : List Field) : Type 0 where
  pub number : number_of text after (bytes_of text f) ≡ Some n
  pub came : (after ≡ names) ⊎ ((after ≡ names ++ f ∷ []) × (n ≡ length names))
  pub order : names_of text after ≡ with_name (names_of text names) (bytes_of text f)
  pub few : length names ≤ limit → length after ≤ limit

module _ (text : List ℕ) (names : List Field) (f : Field) (limit place : ℕ) (m : ℕ × List Field) where
  abbrev Is : ℕ × List Field → Type 0
  Is p = Numbered text names f limit p.0 p.1

  is_known : (i : ℕ) → number_of text names (bytes_of text f) ≡ Some i → Is (i, names)
  is_known i k =
      record {
        number = k;
        came = inl refl;
        order = sym (cond-true _ _ _ (known_number text names (bytes_of text f) ∙ ap is_some k));
        few = λ h. h;
      }

  is_new : number_of text names (bytes_of text f) ≡ None → length names < limit → Is (length names, names ++ f ∷ [])
  is_new k l =
      record {
        number =
            by_turns text (names ++ f ∷ []) (bytes_of text f)
            ∙ from_none text 0 names (f ∷ []) (bytes_of text f) (sym (by_turns text names (bytes_of text f)) ∙ k)
            ∙ cond-true _ _ _ (same_refl (bytes_of text f)) ∙ ap Some (zero-add (length names));
        came = inr (refl, refl);
        order = map_push (bytes_of text) names f ∙ sym (cond-false _ _ _ (known_number text names (bytes_of text f) ∙ ap is_some k));
        few = λ h. omega (arith, length_push names f);
      }

  enrolled_is : (o : Option ℕ) → number_of text names (bytes_of text f) ≡ o → enrolled names f limit place o ≡ Ok m → Is m
  enrolled_is (Some i) k e = subst Is (ok_same (i, names) m e) (is_known i k)
  enrolled_is None k e =
      cond_both (leb limit (length names)) _ _ (λ (o : Result (ℕ × List Field) NamesFault). o ≡ Ok m → Is m)
      (λ _ e. let z : ◌≡◌ {A = ℕ} 0 1 = cc in absurd (omega arith))
      (λ t e. subst Is (ok_same (length names, names ++ f ∷ []) m e) (is_new k (leb-false limit (length names) t)))
      e

  pub numbered_is : numbered text names f limit place ≡ Ok m → Numbered text names f limit m.0 m.1
  numbered_is e = enrolled_is (number_of text names (bytes_of text f)) refl e

module _ (text : List ℕ) (names : List Field) (f : Field) (limit n : ℕ) (after : List Field) (m : Numbered text names f limit n after) where
  numbered_more : (gs : List Field) × (after ≡ names ++ gs)
  numbered_more = elim m.came [ inl e ↦ ([], e ∙ sym (append-nil names)) | inr e ↦ (f ∷ [], e.0) ]

  pub numbered_longer : length names ≤ length after
  numbered_longer = omega (arith, ap length numbered_more.1, length-append names numbered_more.0)

  -- the other names keep their numbers
  pub numbered_keeps : (x : List ℕ) (i : ℕ) → number_of text names x ≡ Some i → number_of text after x ≡ Some i
  numbered_keeps x i e = ap (λ fs. number_of text fs x) numbered_more.1 ∙ number_more text names x numbered_more.0 i e

  pub numbered_front : (x : List ℕ) (i : ℕ) → i < length names → number_of text after x ≡ Some i → number_of text names x ≡ Some i
  numbered_front x i h e =
      number_front text names x numbered_more.0 i h (ap (λ fs. number_of text fs x) (sym numbered_more.1) ∙ e)

  -- what holds of each name
  pub numbered_all : (P : Field → Type 0) → P f → All P names → All P after
  numbered_all P p all =
      elim m.came [ inl e ↦ subst (All P) (sym e) all | inr e ↦ subst (All P) (sym e.0) (All-push P names f all p) ]

  -- a number below the count was there before, and the count is the next number
  pub numbered_old : n < length names → after ≡ names
  numbered_old h = elim m.came [ inl e ↦ e | inr e ↦ absurd (omega (arith, e.1)) ]

  pub numbered_new : length names ≤ n → (after ≡ names ++ f ∷ []) × (n ≡ length names)
  numbered_new h =
      elim m.came [
        | inl e ↦ absurd (omega (arith, number_below text after (bytes_of text f) n m.number, ap length e))
        | inr e ↦ e
      ]
