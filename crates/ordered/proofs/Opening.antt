-- x at the end of the first n, turned into its place p.
use Rattle.std.proofs.Common.{◌≡◌, ℕ, suc, ◌+◌, ◌-◌, ◌<◌, ◌≤◌, List, [], ◌∷◌, ◌++◌, length, take, drop, set, sym, ap, ◌∙◌, arith}
use borrow.Rule.Slice.PartMut.{put_mid}
use Rattle.std.proofs.lemmas.List.{take_more_set, drop-append-le, length-take-le, length-drop, length_push, length-set, drop_at, take_at, take-set-le, take-take, drop-set-lt}
use Rattle.std.proofs.lemmas.Slice.{between_is, take-put_mid, drop-put_mid}

module _ {A : Type 0} (s : List A) (n p : ℕ) (x : A) (lt : n < length s) (le : p ≤ n) where
  abbrev after : List A
  after = drop p (take n s)

  pub part : take (n + 1 - p) (drop p (set s n x)) ≡ after ++ x ∷ []
  part =
      let h = length-take-le n s (omega arith) in
      between_is (set s n x) p (n + 1) ∙ ap (drop p) (take_more_set s n x lt) ∙ drop-append-le p (take n s) (x ∷ []) (omega arith)

  pub turned : (t r : List A) → t ≡ after ++ x ∷ [] → r ≡ drop (length t - 1) t ++ take (length t - 1) t → r ≡ x ∷ after
  turned t r e h =
      let k : length after ≡ length t - 1 = let m = ap length e ∙ length_push after x in omega arith in
      let last : drop (length t - 1) t ≡ x ∷ [] = ap (drop (length t - 1)) e ∙ drop_at after (x ∷ []) (length t - 1) k in
      let front : take (length t - 1) t ≡ after = ap (take (length t - 1)) e ∙ take_at after (x ∷ []) (length t - 1) k in
      h ∙ ap (λ (u : List A). u ++ take (length t - 1) t) last ∙ ap (λ (u : List A). x ∷ u) front

  module _ (r : List A) (e : r ≡ x ∷ after) where
    size : length r ≡ n + 1 - p
    size =
        let m : length r ≡ suc (length after) = ap length e in
        let l = length-drop p (take n s) in
        let k = length-take-le n s (omega arith) in
        omega arith

    inside : p ≤ length (set s n x)
    inside = let l = length-set s n x in omega arith

    pub opened_front : take (n + 1) (put_mid p (n + 1 - p) (set s n x) r) ≡ take p (take n s) ++ x ∷ after
    opened_front =
        let z = size in
        take-put_mid p (n + 1 - p) (set s n x) r (n + 1) (omega arith) inside
        ∙ ap (λ (u : List A). u ++ r) (take-set-le p s n x le ∙ sym (take-take p n s le))
        ∙ ap (λ (u : List A). take p (take n s) ++ u) e

    pub opened_rest : drop (n + 1) (put_mid p (n + 1 - p) (set s n x) r) ≡ drop (n + 1) s
    opened_rest = drop-put_mid p (n + 1 - p) (set s n x) r (n + 1) (omega arith) inside size ∙ drop-set-lt (n + 1) s n x (omega arith)
