-- An adding keeps the order, and adds one member: what follows from the laws of a total order.
use Rattle.std.proofs.Common.{◌≡◌, suc, Bool, true, false, ◌||◌, List, [], ◌∷◌, length, Ordering, Less, Equal, Greater, sym, refl, ap, ◌∙◌, subst}
use Rattle.std.specs.Cmp.{IsTotalOrder}
use Rattle.std.specs.Ordering.{ordering_reverse, eq_by_cmp, is_eq, match_ordering}
use Rattle.std.specs.List.{AllByRecursion, IsDistinct}
use Rattle.std.specs.List.Sorted.{IsStrictlySortedBy}
use Rattle.std.specs.BTreeSet.{insert_key}
use Rattle.std.specs.Set.{is_member}
use Rattle.std.proofs.ByRecursion.{All-weaker}
use Rattle.std.proofs.Math.Bool.{or_comm, or_assoc}
use Rattle.std.proofs.lemmas.Bool.{or_from}
use Rattle.std.proofs.lemmas.Cmp.{alike_right}
use Rattle.std.proofs.lemmas.Map.Keys.{IsDistinct-from_sorted}
use Rattle.ordered.specs.Insertion.{insert_all}

or_again : (b c : Bool) → (b || c) ≡ ((b || c) || b)
or_again true c = refl
or_again false true = refl
or_again false false = refl

or_none : (b : Bool) → (b || false) ≡ b
or_none true = refl
or_none false = refl

module _ {A : Type 0} (cmp : A → A → Ordering) (x : A) where
  -- what holds of x and of all members holds of all after
  pub all_insert : (P : A → Type 0) → P x → (xs : List A) → AllByRecursion P xs → AllByRecursion P (insert_key cmp xs x)
  all_insert P p [] a = (p, tt)
  all_insert P p (y ∷ ys) a =
      elim (cmp x y) as (λ o. AllByRecursion P (match_ordering o (x ∷ y ∷ ys) (y ∷ ys) (y ∷ insert_key cmp ys x)))
      [ Less ↦ (p, a) | Equal ↦ a | Greater ↦ (a.0, all_insert P p ys a.1) ]

module _ {A : Type 0} {eq : A → A → Bool} {cmp : A → A → Ordering} (o : IsTotalOrder cmp) (ties : (x y : A) → eq x y ≡ eq_by_cmp cmp x y) where
  pub turned : (x y : A) (r : Ordering) → cmp x y ≡ r → cmp y x ≡ ordering_reverse r
  turned x y r e = o.antisymm y x ∙ ap ordering_reverse e

  pub tested : (x y : A) (r : Ordering) → cmp x y ≡ r → eq x y ≡ is_eq r
  tested x y r e = ties x y ∙ ap is_eq e

  -- ── in order ──

  -- what is less than the first is less than all
  before_all : (x y : A) (ys : List A) → cmp x y ≡ Less → IsStrictlySortedBy cmp (y ∷ ys) → AllByRecursion (λ z. cmp x z ≡ Less) (y ∷ ys)
  unfolding IsStrictlySortedBy
  before_all x y ys e h = (e, All-weaker (λ z. cmp y z ≡ Less) (λ z. cmp x z ≡ Less) (λ z l. o.trans x y z e l) ys h.0)

  pub rising_insert : (x : A) (xs : List A) → IsStrictlySortedBy cmp xs → IsStrictlySortedBy cmp (insert_key cmp xs x)
  unfolding IsStrictlySortedBy
  rising_insert x [] h = (tt, tt)
  rising_insert x (y ∷ ys) h = go (cmp x y) refl (rising_insert x ys h.1)
    where
      go : (r : Ordering) → cmp x y ≡ r → IsStrictlySortedBy cmp (insert_key cmp ys x) → IsStrictlySortedBy cmp (match_ordering r (x ∷ y ∷ ys) (y ∷ ys) (y ∷ insert_key cmp ys x))
      go Less e below = (before_all x y ys e h, h)
      go Equal e below = h
      go Greater e below = (all_insert cmp x (λ z. cmp y z ≡ Less) (turned x y Greater e) ys h.0, below)

  -- ── members ──

  pub member_insert : (x : A) (xs : List A) (q : A) → is_member eq (insert_key cmp xs x) q ≡ (is_member eq xs q || eq q x)
  member_insert x [] q = or_none (eq q x)
  member_insert x (y ∷ ys) q = go (cmp x y) refl (member_insert x ys q)
    where
      go : (r : Ordering) → cmp x y ≡ r → is_member eq (insert_key cmp ys x) q ≡ (is_member eq ys q || eq q x)
          → is_member eq (match_ordering r (x ∷ y ∷ ys) (y ∷ ys) (y ∷ insert_key cmp ys x)) q ≡ ((eq q y || is_member eq ys q) || eq q x)
      go Less e below = or_comm (eq q x) (is_member eq (y ∷ ys) q)
      go Equal e below =
          let same : eq q x ≡ eq q y = ties q x ∙ ap is_eq (alike_right o x y q e) ∙ sym (ties q y) in
          or_again (eq q y) (is_member eq ys q) ∙ ap (λ b. (eq q y || is_member eq ys q) || b) (sym same)
      go Greater e below = ap (λ b. eq q y || b) below ∙ sym (or_assoc (eq q y) (is_member eq ys q) (eq q x))

  -- what is less than all is none of them
  absent : (x : A) (xs : List A) → AllByRecursion (λ z. cmp x z ≡ Less) xs → is_member eq xs x ≡ false
  absent x [] h = refl
  absent x (y ∷ ys) h = or_from (eq x y) (is_member eq ys x) (tested x y Less h.0) (absent x ys h.1)

  -- what is there already changes nothing
  pub insert_known : (x : A) (xs : List A) → IsStrictlySortedBy cmp xs → is_member eq xs x ≡ true → insert_key cmp xs x ≡ xs
  unfolding IsStrictlySortedBy
  insert_known x [] h m = cc
  insert_known x (y ∷ ys) h m = go (cmp x y) refl (insert_known x ys h.1)
    where
      go : (r : Ordering) → cmp x y ≡ r → (is_member eq ys x ≡ true → insert_key cmp ys x ≡ ys) → match_ordering r (x ∷ y ∷ ys) (y ∷ ys) (y ∷ insert_key cmp ys x) ≡ y ∷ ys
      go Less e below = let no = absent x (y ∷ ys) (before_all x y ys e h) in cc
      go Equal e below = refl
      go Greater e below = ap (λ zs. y ∷ zs) (below (ap (λ b. b || is_member eq ys x) (sym (tested x y Greater e)) ∙ m))

  -- what is new makes one more
  pub insert_new : (x : A) (xs : List A) → is_member eq xs x ≡ false → length (insert_key cmp xs x) ≡ suc (length xs)
  insert_new x [] m = refl
  insert_new x (y ∷ ys) m = go (cmp x y) refl (insert_new x ys)
    where
      go : (r : Ordering) → cmp x y ≡ r → (is_member eq ys x ≡ false → length (insert_key cmp ys x) ≡ suc (length ys)) → length (match_ordering r (x ∷ y ∷ ys) (y ∷ ys) (y ∷ insert_key cmp ys x)) ≡ suc (suc (length ys))
      go Less e below = refl
      go Equal e below = let yes = ap (λ b. b || is_member eq ys x) (tested x y Equal e) in cc
      go Greater e below = ap suc (below (ap (λ b. b || is_member eq ys x) (sym (tested x y Greater e)) ∙ m))

  -- ── many addings ──

  rising_all : (xs ys : List A) → IsStrictlySortedBy cmp ys → IsStrictlySortedBy cmp (insert_all cmp xs ys)
  rising_all [] ys h = h
  rising_all (x ∷ xs) ys h = rising_all xs (insert_key cmp ys x) (rising_insert x ys h)

  member_all : (xs ys : List A) (q : A) → is_member eq (insert_all cmp xs ys) q ≡ (is_member eq ys q || is_member eq xs q)
  member_all [] ys q = sym (or_none (is_member eq ys q))
  member_all (x ∷ xs) ys q =
      member_all xs (insert_key cmp ys x) q ∙ ap (λ b. b || is_member eq xs q) (member_insert x ys q)
      ∙ or_assoc (is_member eq ys q) (eq q x) (is_member eq xs q)

  rising_none : IsStrictlySortedBy cmp []
  unfolding IsStrictlySortedBy
  rising_none = tt

  -- what many addings from an empty list make
  pub all_added : (xs : List A) → IsStrictlySortedBy cmp (insert_all cmp xs []) × IsDistinct eq (insert_all cmp xs [])
      × ((q : A) → is_member eq (insert_all cmp xs []) q ≡ is_member eq xs q)
  all_added xs =
      let up = rising_all xs [] rising_none in (
        up,
        subst (λ (e : A → A → Bool). IsDistinct e (insert_all cmp xs [])) (λ i x y. sym (ties x y) i) (IsDistinct-from_sorted cmp (insert_all cmp xs []) up),
        member_all xs [],
      )
