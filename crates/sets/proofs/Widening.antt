-- When the set of expressions that is being built gets too wide.
use Rattle.std.proofs.Common.{◌≡◌, ℕ, suc, ◌+◌, ◌≤◌, Bool, true, false, ◌||◌, cond, ltb, leb, List, [], ◌∷◌, ◌++◌, length, IsErrAnd, Ok, Err, Result, Ordering, Less, Equal, Greater, sym, refl, ap, ◌∙◌, subst, inl, inr, arith}
use Rattle.std.specs.Cmp.Lexicographic.{slice_cmp}
use Rattle.std.specs.Ordering.{match_ordering, nat_cmp, eq_by_cmp}
use Rattle.std.specs.Prelude.{MatchResult}
use Rattle.std.specs.BTreeSet.{insert_key}
use Rattle.std.specs.Set.{is_member}
use Rattle.std.proofs.lemmas.Cmp.{on_total, nat_list_cmp_total}
use Rattle.std.proofs.lemmas.List.{length-map, length-take}
use Rattle.std.proofs.lemmas.Bool.{ltb-true, lt-ltb, le-ltb, leb-true, leb-false, or_cases, or_parts, or_from, or_left, or_right}
use Rattle.ordered.specs.Insertion.{by_content}
use Rattle.ordered.specs.Lists.{members, admitted}
use Rattle.ordered.specs.declared.full.Full.{Full}
use Rattle.ordered.specs.declared.list.OrderedList.{OrderedList}
use Rattle.ordered.proofs.Membership.{insert_new}
use Rattle.traces.specs.Expressions.{Exp}
use Rattle.traces.specs.Order.{size, order}
use Rattle.traces.proofs.Ordering.{size_counts_symbols, order_equal}
use Rattle.expressions.specs.Model.{model, models, symbols_of}
use Rattle.expressions.specs.declared.expr.Expr.{Expr}
use Rattle.sets.specs.Sets.{insert, insert_each, any_large, wide}
use Rattle.sets.specs.Refusals.{Refused, Becomes}
use Rattle.sets.specs.declared.refusal.SetRefusal.{SetRefusal}
use Rattle.sets.specs.declared.refusal.SetRefusal.TheVariants.{TooWide, Memory}
use Rattle.sets.proofs.Inserting.{insert_grows, insert-append, map-insert}

-- ── the sizes of the members ──

same_size : (E F : Exp) → order E F ≡ Equal → size E ≡ size F
same_size E F e = size_counts_symbols E ∙ ap length (order_equal.0 E F e) ∙ sym (size_counts_symbols F)

or_twice : (x y : Bool) → (x || y) ≡ (x || (x || y))
or_twice true y = refl
or_twice false y = refl

or_swap : (x y z : Bool) → (x || (y || z)) ≡ (y || (x || z))
or_swap true true z = refl
or_swap true false z = refl
or_swap false y z = refl

large_insert : (E : Exp) (Es : List Exp) → any_large (insert E Es) ≡ (ltb 120 (size E) || any_large Es)
large_insert E [] = refl
large_insert E (F ∷ Fs) = go (order E F) refl (large_insert E Fs)
  where
    go : (o : Ordering) → order E F ≡ o → any_large (insert E Fs) ≡ (ltb 120 (size E) || any_large Fs)
        → any_large (match_ordering o (E ∷ F ∷ Fs) (F ∷ Fs) (F ∷ insert E Fs)) ≡ (ltb 120 (size E) || (ltb 120 (size F) || any_large Fs))
    go Less e below = refl
    go Equal e below = rw (same_size E F e) (or_twice (ltb 120 (size F)) (any_large Fs))
    go Greater e below = rw below (or_swap (ltb 120 (size F)) (ltb 120 (size E)) (any_large Fs))

-- ── too wide for good ──

wide-insert : (E : Exp) (Es : List Exp) → wide Es ≡ true → wide (insert E Es) ≡ true
wide-insert E Es h =
    elim (or_cases (ltb 32 (length Es)) (any_large Es) h) [
      | inl many ↦
          let grows = insert_grows order E Es in
          or_left _ _ (lt-ltb 32 (length (insert E Es)) (omega (arith, ltb-true 32 (length Es) many)))
      | inr large ↦ or_right (ltb 32 (length (insert E Es))) _ (large_insert E Es ∙ or_right (ltb 120 (size E)) (any_large Es) large)
    ]

wide_each : (Fs Es : List Exp) → wide Es ≡ true → wide (insert_each Fs Es) ≡ true
wide_each [] Es h = h
wide_each (F ∷ Fs) Es h = wide_each Fs (insert F Es) (wide-insert F Es h)

-- ── one adding ──

-- the order in which the list keeps them
abbrev by_symbols : Expr → Expr → Ordering
by_symbols = by_content symbols_of (slice_cmp nat_cmp)

pub models-insert : (d : Expr) (es : List Expr) → models (insert_key by_symbols es d) ≡ insert (model d) (models es)
models-insert = map-insert model by_symbols order (λ e f. refl)

pub too_large : (E : Exp) (Es : List Exp) → leb (size E) 120 ≡ false → wide (insert E Es) ≡ true
too_large E Es h =
    or_right (ltb 32 (length (insert E Es))) _ (large_insert E Es ∙ or_left _ (any_large Es) (lt-ltb 120 (size E) (leb-false (size E) 120 h)))

-- what is refused is new, and finds no place
no_room : {A : Type 0} (f : Full) (m : Bool) (free : List A) → Err f ≡ cond m (Ok false) (admitted free) → (m ≡ false) × (length free ≡ 0)
no_room f true free e = let no : ◌≡◌ {A = ℕ} 0 1 = cc in absurd (omega arith)
no_room f false [] e = (refl, refl)
no_room f false (x ∷ free) e = let no : ◌≡◌ {A = ℕ} 0 1 = cc in absurd (omega arith)

pub too_many : (d : Expr) (es free : List Expr) (f : Full) → Err f ≡ cond (is_member (eq_by_cmp by_symbols) es d) (Ok false) (admitted free)
    → length es + length free ≡ 32 → wide (insert (model d) (models es)) ≡ true
too_many d es free f e room =
    let full = no_room f (is_member (eq_by_cmp by_symbols) es d) free e in
    let one_more = insert_new (on_total symbols_of nat_list_cmp_total) (λ e g. refl) d es full.0 in
    let long : length (insert (model d) (models es)) ≡ suc (length es) =
    sym (ap length (models-insert d es)) ∙ length-map (insert_key by_symbols es d) model ∙ one_more in
    or_left _ (any_large (insert (model d) (models es))) (lt-ltb 32 (length (insert (model d) (models es))) (omega (arith, long, full.1)))

pub still_narrow : (E : Exp) (Es : List Exp) → leb (size E) 120 ≡ true → wide Es ≡ false → length (insert E Es) ≤ 32 → wide (insert E Es) ≡ false
still_narrow E Es small narrow few =
    or_from _ _ (le-ltb 32 (length (insert E Es)) few)
    (large_insert E Es ∙ or_from (ltb 120 (size E)) _ (le-ltb 120 (size E) (leb-true (size E) 120 small)) (or_parts _ _ narrow).1)

-- a refusal leaves the list
module _ {o : _} (d : Expr) (l after : OrderedList Expr o) (small : leb (size (model d)) 120 ≡ true)
    (narrow : wide (models (members l)) ≡ false) (room : length after.store.now ≡ 32) where
  pub stays_narrow : {T : Type 0} (r : Result Bool T)
      → MatchResult r (λ _. members after ≡ insert_key by_symbols (members l) d) (λ _. after ≡ l) → wide (models (members after)) ≡ false
  stays_narrow (Ok new) e =
      let grown : models (members after) ≡ insert (model d) (models (members l)) = ap models e ∙ models-insert d (members l) in
      ap wide grown
      ∙ still_narrow (model d) (models (members l)) small narrow
      (omega (arith, ap length grown, length-map (members after) model, length-take after.len after.store.now, room))
  stays_narrow (Err f) e = ap (λ m. wide (models (members m))) e ∙ narrow

-- ── many addings ──

-- what is refused on the way is refused in the end
pub refused_each : (f : SetRefusal) (Ds Fs Es Gs : List Exp) → insert_each (Ds ++ Fs) Es ≡ Gs → Refused f (insert_each Ds Es) → Refused f Gs
refused_each TooWide Ds Fs Es Gs e h = sym (ap wide e) ∙ ap wide (insert-append order Ds Fs Es) ∙ wide_each Fs (insert_each Ds Es) h
refused_each Memory Ds Fs Es Gs e h = tt

pub refusal_passed : {A : Type 0} (r : Result A SetRefusal) (found : A → List Exp) (Es : List Exp) (f : SetRefusal)
    → IsErrAnd r (λ y. y ≡ f) → Refused f Es → Becomes r found Es
refusal_passed (Ok x) found Es f e h = absurd e
refusal_passed (Err y) found Es f e h = subst (λ z. Refused z Es) (sym e) h
