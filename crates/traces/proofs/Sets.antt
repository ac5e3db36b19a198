-- The sets of expressions after words: what they decide, and that only their members count.
use Rattle.std.proofs.Common.{◌≡◌, ℕ, ◌<◌, true, ◌≢◌, ◌↔◌, List, [], ◌∷◌, ◌++◌, sym, refl, ap, ◌∙◌, subst, inl, inr, append-nil}
use mathlib.Core.Bool.{false≢true}
use mathlib.Core.List.{nil≢cons}
use Rattle.std.proofs.lemmas.Bool.{and_parts, and_from, or_cases, or_left, or_right}
use Rattle.traces.specs.Members.{Member, Any, Subset}
use Rattle.traces.specs.Words.{Word, Rel}
use Rattle.traces.specs.Expressions.{Exp, event, one, zero, sum, cat, star, done, Matches}
use Rattle.traces.specs.Exchanges.{unchanged}
use Rattle.traces.specs.Closure.{Closure}
use Rattle.traces.specs.Normal.{Normal}
use Rattle.traces.specs.Derivatives.{derivatives, next, after, nullable}
use Rattle.traces.specs.Theorems.{NullableDecides, NullableClosure, NonemptyPrefix, AfterAppend, EmptyStaysEmpty, MembersCount}
use Rattle.traces.proofs.Lists.{member_left, member_right, member_either, no_members, all_right, empty_left, empty_right}
use Rattle.traces.proofs.Exchanging.{exchanges_empty}
use Rattle.traces.proofs.NormalForms.{normal_has_word}
use Rattle.traces.proofs.DerivativeWords.{derivatives_closure}
use Rattle.traces.proofs.DerivativeForms.{derivatives_normal}
use Rattle.traces.proofs.Events.{closure_below}

-- ── the next set ──

pub next_in : (rel : Rel) (a : ℕ) (E F : Exp) (Es : List Exp) → Member E Es → Member F (derivatives rel a E) → Member F (next rel a Es)
next_in rel a E F [] m d = absurd m
next_in rel a E F (G ∷ Es) (inl e) d =
    member_left F (derivatives rel a G) (next rel a Es) (subst (λ H. Member F (derivatives rel a H)) e d)
next_in rel a E F (G ∷ Es) (inr m) d = member_right F (derivatives rel a G) (next rel a Es) (next_in rel a E F Es m d)

pub next_out : (rel : Rel) (a : ℕ) (F : Exp) (Es : List Exp) → Member F (next rel a Es) → Any (λ E. Member F (derivatives rel a E)) Es
next_out rel a F [] m = absurd m
next_out rel a F (G ∷ Es) m =
    elim (member_either F (derivatives rel a G) (next rel a Es) m) [
      | inl d ↦ (G, inl refl, d)
      | inr k ↦ let r = next_out rel a F Es k in (r.0, inr r.1, r.2)
    ]

-- ── the set after a word ──

-- what is behind the word is in the closure of some member of the set after it
after_closure : (rel : Rel) (w v : Word) (Es : List Exp)
    → Any (λ E. Closure rel E (w ++ v)) Es ↔ Any (λ E. Closure rel E v) (after rel Es w)
after_closure rel [] v Es = (λ s. s, λ s. s)
after_closure rel (a ∷ w) v Es =
    let h = after_closure rel w v (next rel a Es) in (
      λ s. let d = (derivatives_closure rel s.0 a (w ++ v)).0 s.2 in
          h.0 (d.0, next_in rel a s.0 d.0 Es s.1 d.1, d.2),
      λ s. let t = h.1 s in
          let r = next_out rel a t.0 Es t.1 in
          (r.0, r.1, (derivatives_closure rel r.0 a (w ++ v)).1 (t.0, r.2, t.2)),
    )

-- the same for the set that is E alone
after_one : (rel : Rel) (E : Exp) (w v : Word) → Closure rel E (w ++ v) ↔ Any (λ F. Closure rel F v) (after rel (E ∷ []) w)
after_one rel E w v = (
  λ c. (after_closure rel w v (E ∷ [])).0 (E, inl refl, c),
  λ s. alone ((after_closure rel w v (E ∷ [])).1 s),
)
  where
    alone : Any (λ F. Closure rel F (w ++ v)) (E ∷ []) → Closure rel E (w ++ v)
    alone (F, inl e, c) = subst (λ G. Closure rel G (w ++ v)) e c
    alone (F, inr m, c) = absurd m

pub after-append : AfterAppend
after-append rel Es [] v = refl
after-append rel Es (a ∷ w) v = after-append rel (next rel a Es) w v

after_empty : (rel : Rel) (v : Word) → after rel [] v ≡ []
after_empty rel [] = refl
after_empty rel (a ∷ v) = after_empty rel v

pub empty_stays_empty : EmptyStaysEmpty
empty_stays_empty rel Es w v e = after-append rel Es w v ∙ ap (λ Fs. after rel Fs v) e ∙ after_empty rel v

-- ── the empty word ──

nullable_in : (E : Exp) → Matches E [] → nullable E ≡ true
nullable_in (event b) i = absurd (nil≢cons i)
nullable_in one i = refl
nullable_in zero i = absurd i
nullable_in (sum E F) (inl i) = or_left (nullable E) (nullable F) (nullable_in E i)
nullable_in (sum E F) (inr i) = or_right (nullable E) (nullable F) (nullable_in F i)
nullable_in (cat E F) i =
    and_from (nullable E) (nullable F)
    (nullable_in E (subst (λ t. Matches E t) (empty_left i.0 i.1 i.2) i.3))
    (nullable_in F (subst (λ t. Matches F t) (empty_right i.0 i.1 i.2) i.4))
nullable_in (star E) i = refl

nullable_out : (E : Exp) → nullable E ≡ true → Matches E []
nullable_out (event b) e = absurd (false≢true e)
nullable_out one e = refl
nullable_out zero e = absurd (false≢true e)
nullable_out (sum E F) e =
    elim (or_cases (nullable E) (nullable F) e) [ inl f ↦ inl (nullable_out E f) | inr f ↦ inr (nullable_out F f) ]
nullable_out (cat E F) e =
    let f = and_parts (nullable E) (nullable F) e in
    ([], [], refl, nullable_out E f.0, nullable_out F f.1)
nullable_out (star E) e = done refl

pub nullable_decides : NullableDecides
nullable_decides E = (nullable_out E, nullable_in E)

closure_empty : (rel : Rel) (E : Exp) → Closure rel E [] ↔ (nullable E ≡ true)
closure_empty rel E = (
  λ c. nullable_in E (subst (λ t. Matches E t) (exchanges_empty rel [] c.0 refl c.1) c.2),
  λ e. ([], unchanged refl, nullable_out E e),
)

pub nullable_closure : NullableClosure
nullable_closure rel E w =
    let h = after_one rel E w [] in (
      λ c. let s = h.0 (subst (Closure rel E) (sym (append-nil w)) c) in (s.0, s.1, (closure_empty rel s.0).0 s.2),
      λ s. subst (Closure rel E) (append-nil w) (h.1 (s.0, s.1, (closure_empty rel s.0).1 s.2)),
    )

-- ── how a word goes on ──

-- the members are normalised, and none is Zero
abbrev Proper : List Exp → Type 0
Proper Es = (E : Exp) → Member E Es → Normal E × (E ≢ zero)

next_proper : (rel : Rel) (a : ℕ) (Es : List Exp) → Proper Es → Proper (next rel a Es)
next_proper rel a Es h F m =
    let r = next_out rel a F Es m in (
      derivatives_normal.1 rel a r.0 F (h r.0 r.1).0 r.2,
      derivatives_normal.0 rel a r.0 F r.2,
    )

after_proper : (rel : Rel) (w : Word) (Es : List Exp) → Proper Es → Proper (after rel Es w)
after_proper rel [] Es h = h
after_proper rel (a ∷ w) Es h = after_proper rel w (next rel a Es) (next_proper rel a Es h)

one_proper : (E : Exp) → Normal E → E ≢ zero → Proper (E ∷ [])
one_proper E h n F (inl e) = (subst Normal (sym e) h, λ f. n (sym e ∙ f))
one_proper E h n F (inr m) = absurd m

proper_word : (E : Exp) → Normal E → E ≢ zero → (w : Word) × Matches E w
proper_word E h n = elim (normal_has_word.0 E h) [ inl e ↦ absurd (n e) | inr k ↦ normal_has_word.1 E k ]

-- a set that is not empty has a word
set_word : (rel : Rel) (Es : List Exp) → Proper Es → Es ≢ [] → (v : Word) × Any (λ E. Closure rel E v) Es
set_word rel [] h n = absurd (n refl)
set_word rel (E ∷ Es) h n =
    let l = h E (inl refl) in
    let r = proper_word E l.0 l.1 in
    (r.0, (E, inl refl, (r.0, unchanged refl, r.1)))

pub nonempty_prefix : NonemptyPrefix
nonempty_prefix n rel E w h z b = (
  λ k. let s = set_word rel (after rel (E ∷ []) w) (after_proper rel w (E ∷ []) (one_proper E h z)) k in
      let c = (after_one rel E w s.0).1 s.1 in
      (s.0, all_right (λ a. a < n) w s.0 (closure_below n rel E (w ++ s.0) b c), c),
  λ g e. (subst (λ Es. Any (λ F. Closure rel F g.0) Es) e ((after_one rel E w g.0).0 g.2)).1,
)

-- ── only members count ──

next_subset : (rel : Rel) (a : ℕ) (Es Fs : List Exp) → Subset Es Fs → Subset (next rel a Es) (next rel a Fs)
next_subset rel a Es Fs h G m =
    let r = next_out rel a G Es m in next_in rel a r.0 G Fs (h r.0 r.1) r.2

after_subset : (rel : Rel) (Es Fs : List Exp) (w : Word) → Subset Es Fs → Subset (after rel Es w) (after rel Fs w)
after_subset rel Es Fs [] h = h
after_subset rel Es Fs (a ∷ w) h = after_subset rel (next rel a Es) (next rel a Fs) w (next_subset rel a Es Fs h)

pub members_count : MembersCount
members_count = (
  next_subset,
  after_subset,
  λ Es Fs h s. (s.0, h s.0 s.1, s.2),
  λ Es Fs h e. no_members Es (λ E m. subst (Member E) e (h E m)),
)
