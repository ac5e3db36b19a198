-- Members of joined and mapped lists, and what holds of every element of a joined list.
use Rattle.std.proofs.Common.{◌≡◌, ◌⊎◌, List, [], ◌∷◌, ◌++◌, map, sym, refl, ap, inl, inr}
use mathlib.Core.List.{nil≢cons}
use Rattle.std.specs.List.{AllByRecursion}
use Rattle.traces.specs.Members.{Member, Any}

module _ {A : Type 0} where
  pub member_left : (x : A) (xs ys : List A) → Member x xs → Member x (xs ++ ys)
  member_left x [] ys m = absurd m
  member_left x (z ∷ xs) ys (inl e) = inl e
  member_left x (z ∷ xs) ys (inr m) = inr (member_left x xs ys m)

  pub member_right : (x : A) (xs ys : List A) → Member x ys → Member x (xs ++ ys)
  member_right x [] ys m = m
  member_right x (z ∷ xs) ys m = inr (member_right x xs ys m)

  pub member_either : (x : A) (xs ys : List A) → Member x (xs ++ ys) → Member x xs ⊎ Member x ys
  member_either x [] ys m = inr m
  member_either x (z ∷ xs) ys (inl e) = inl (inl e)
  member_either x (z ∷ xs) ys (inr m) = elim (member_either x xs ys m) [ inl k ↦ inl (inr k) | inr k ↦ inr k ]

  pub no_members : (xs : List A) → ((x : A) → Member x xs → ⊥) → xs ≡ []
  no_members [] h = refl
  no_members (x ∷ xs) h = absurd (h x (inl refl))

  pub any_left : (P : A → Type 0) (xs ys : List A) → Any P xs → Any P (xs ++ ys)
  any_left P xs ys s = (s.0, member_left s.0 xs ys s.1, s.2)

  pub any_right : (P : A → Type 0) (xs ys : List A) → Any P ys → Any P (xs ++ ys)
  any_right P xs ys s = (s.0, member_right s.0 xs ys s.1, s.2)

  pub any_either : (P : A → Type 0) (xs ys : List A) → Any P (xs ++ ys) → Any P xs ⊎ Any P ys
  any_either P xs ys s =
      elim (member_either s.0 xs ys s.1) [ inl m ↦ inl (s.0, m, s.2) | inr m ↦ inr (s.0, m, s.2) ]

  pub all_left : (P : A → Type 0) (xs ys : List A) → AllByRecursion P (xs ++ ys) → AllByRecursion P xs
  all_left P [] ys h = tt
  all_left P (x ∷ xs) ys h = (h.0, all_left P xs ys h.1)

  pub all_right : (P : A → Type 0) (xs ys : List A) → AllByRecursion P (xs ++ ys) → AllByRecursion P ys
  all_right P [] ys h = h
  all_right P (x ∷ xs) ys h = all_right P xs ys h.1

  -- a joined list is empty only if both parts are
  pub empty_left : (xs ys : List A) → [] ≡ xs ++ ys → xs ≡ []
  empty_left [] ys e = refl
  empty_left (x ∷ xs) ys e = absurd (nil≢cons e)

  pub empty_right : (xs ys : List A) → [] ≡ xs ++ ys → ys ≡ []
  empty_right [] ys e = sym e
  empty_right (x ∷ xs) ys e = absurd (nil≢cons e)

module _ {A B : Type 0} (f : A → B) where
  pub member_map : (x : A) (xs : List A) → Member x xs → Member (f x) (map f xs)
  member_map x [] m = absurd m
  member_map x (z ∷ xs) (inl e) = inl (ap f e)
  member_map x (z ∷ xs) (inr m) = inr (member_map x xs m)

  pub member_unmap : (y : B) (xs : List A) → Member y (map f xs) → (x : A) × Member x xs × (y ≡ f x)
  member_unmap y [] m = absurd m
  member_unmap y (z ∷ xs) (inl e) = (z, inl refl, e)
  member_unmap y (z ∷ xs) (inr m) = let r = member_unmap y xs m in (r.0, inr r.1, r.2)
