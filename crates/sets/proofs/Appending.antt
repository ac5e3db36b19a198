-- What lists without duplicates hold, and that they match words.
use Rattle.std.proofs.Common.{◌≡◌, Bool, true, false, cond, ◌||◌, ◌⊎◌, ◌↔◌, List, [], ◌∷◌, ◌++◌, Decides, sym, refl, ap, ◌∙◌, subst, inl, inr, ⊎_elim}
use Rattle.std.proofs.lemmas.List.{map-append}
use Rattle.std.proofs.lemmas.Bool.{cond-true, cond-false}
use Rattle.std.proofs.lemmas.Bool.Decides.{Decides-like, same_from_decides}
use Rattle.traces.specs.Members.{Member, Any}
use Rattle.traces.specs.Words.{Word, never}
use Rattle.traces.specs.Expressions.{Exp, Matches}
use Rattle.traces.specs.Normal.{equal}
use Rattle.traces.specs.Derivatives.{next, after, nullable}
use Rattle.traces.proofs.Lists.{member_left, member_right, member_either}
use Rattle.traces.proofs.Exchanging.{closure_never}
use Rattle.traces.proofs.NormalWords.{equal_decides}
use Rattle.traces.proofs.Sets.{members_count, nullable_closure}
use Rattle.expressions.specs.Model.{model, models}
use Rattle.sets.specs.Sets.{SameMembers}
use Rattle.sets.specs.Distinct.{is_member, append, append_each, reached}
use Rattle.expressions.specs.declared.expr.Expr.{Expr}
use Rattle.expressions.specs.contracts.expr.ExprPartialEq.TheImpl as same
use Rattle.expressions.proofs.Derived.{eq_is_equal}
use Rattle.std.specs.List.{list_any}
use Rattle.sets.proofs.Searching.{some_decides}

-- ── the program's lists ──

pub append_join : (Ds Fs Es : List Exp) → append_each (Ds ++ Fs) Es ≡ append_each Fs (append_each Ds Es)
append_join [] Fs Es = refl
append_join (D ∷ Ds) Fs Es = append_join Ds Fs (append D Es)

pub append_step : (ds : List Expr) (d : Expr) (Es : List Exp) → append (model d) (append_each (models ds) Es) ≡ append_each (models (ds ++ d ∷ [])) Es
append_step ds d Es = sym (append_join (models ds) (model d ∷ []) Es) ∙ ap (λ Fs. append_each Fs Es) (sym (map-append model ds (d ∷ [])))

-- the program's test
equal_turned : (E F : Exp) → equal E F ≡ equal F E
equal_turned E F =
    same_from_decides (equal E F) (equal F E) (equal_decides E F)
    ((λ h. sym ((equal_decides F E).0 h)), λ q. (equal_decides F E).1 (sym q))

among : (d : Expr) (es : List Expr) → list_any (λ e. same.ghosts.eq e d) es ≡ is_member (model d) (models es)
among d [] = refl
among d (e ∷ es) = λ i. (eq_is_equal e d ∙ equal_turned (model e) (model d)) i || among d es i

module _ (d : Expr) (es : List Expr) (known : Bool) (told : known ≡ list_any (λ e. same.ghosts.eq e d) es) where
  pub append_known : known ≡ true → models es ≡ append (model d) (models es)
  append_known h = sym (cond-true (is_member (model d) (models es)) (models es) (models es ++ model d ∷ []) (sym (told ∙ among d es) ∙ h))

  pub append_new : (new : List Expr) → known ≡ false → new ≡ es ++ d ∷ [] → models new ≡ append (model d) (models es)
  append_new new h pushed =
      ap models pushed ∙ map-append model es (d ∷ [])
      ∙ sym (cond-false (is_member (model d) (models es)) (models es) (models es ++ model d ∷ []) (sym (told ∙ among d es) ∙ h))

-- ── their members ──

known : (E : Exp) (Es : List Exp) → is_member E Es ≡ true → Member E Es
known E Es h =
    let s = (some_decides (equal E) Es).0 h in subst (λ F. Member F Es) (sym ((equal_decides E s.0).0 s.2)) s.1

append_members : (E : Exp) (Es : List Exp) (F : Exp) → Member F (append E Es) ↔ (Member F Es ⊎ (F ≡ E))
append_members E Es F = go (is_member E Es) refl
  where
    go : (b : Bool) → is_member E Es ≡ b → Member F (cond b Es (Es ++ E ∷ [])) ↔ (Member F Es ⊎ (F ≡ E))
    go true e = (inl, ⊎_elim (λ m. m) (λ q. subst (λ G. Member G Es) (sym q) (known E Es e)))
    go false e = (
      λ m. ⊎_elim inl (⊎_elim inr absurd) (member_either F Es (E ∷ []) m),
      ⊎_elim (member_left F Es (E ∷ [])) (λ q. member_right F Es (E ∷ []) (inl q)),
    )

each_members : (Fs Es : List Exp) (F : Exp) → Member F (append_each Fs Es) ↔ (Member F Es ⊎ Member F Fs)
each_members [] Es F = (inl, ⊎_elim (λ m. m) absurd)
each_members (G ∷ Fs) Es F =
    let one = append_members G Es F in
    let more = each_members Fs (append G Es) F in (
      λ m. ⊎_elim (λ k. ⊎_elim inl (λ q. inr (inl q)) (one.0 k)) (λ k. inr (inr k)) (more.0 m),
      ⊎_elim (λ k. more.1 (inl (one.1 (inl k)))) (⊎_elim (λ q. more.1 (inl (one.1 (inr q)))) (λ k. more.1 (inr k))),
    )

each_same : (Fs : List Exp) → SameMembers (append_each Fs []) Fs
each_same Fs = (λ F m. ⊎_elim absurd (λ k. k) ((each_members Fs [] F).0 m), λ F m. (each_members Fs [] F).1 (inr m))

-- ── matching ──

reached_same : (Es : List Exp) (w : Word) → SameMembers (reached Es w) (after never Es w)
reached_same Es [] = (λ F m. m, λ F m. m)
reached_same Es (a ∷ w) =
    let now = append_each (next never a Es) [] in
    let here = each_same (next never a Es) in
    let later = reached_same now w in (
      λ F m. members_count.1 never now (next never a Es) w here.0 F (later.0 F m),
      λ F m. later.1 F (members_count.1 never (next never a Es) now w here.1 F m),
    )

pub reached_decides : (E : Exp) (w : Word) (Es : List Exp) (r : Bool) → Es ≡ reached (E ∷ []) w
    → Decides r (Any (λ F. nullable F ≡ true) Es) → Decides r (Matches E w)
reached_decides E w Es r is h =
    let same = reached_same (E ∷ []) w in
    let closed = nullable_closure never E w in
    let plain = closure_never E w in
    Decides-like r
    (λ s. plain.0 (closed.1 (members_count.2 (reached (E ∷ []) w) (after never (E ∷ []) w) same.0 (subst (Any (λ F. nullable F ≡ true)) is s))))
    (λ m. subst (Any (λ F. nullable F ≡ true)) (sym is) (members_count.2 (after never (E ∷ []) w) (reached (E ∷ []) w) same.1 (closed.0 (plain.1 m))))
    h
