-- A record's own bytes.
use Rattle.std.proofs.Common.{◌≡◌, ℕ, true, List, [], ◌∷◌, ◌++◌, length, take, ap, ◌∙◌}
use Rattle.std.proofs.lemmas.Bool.{cond-true, cond_both}
use Rattle.std.proofs.lemmas.List.Folds.{length-prefix_len}
use Rattle.std.proofs.lemmas.List.Sums.{take_while-cons}
use Rattle.std.specs.List.{AllByRecursion}
use Rattle.lines.specs.Scanning.{in_record, body}

-- a record's own bytes are a front of those that stand there
pub body_front : (rest : List ℕ) → take (length (body rest)) rest ≡ body rest
body_front rest = ap (λ k. take k rest) (length-prefix_len in_record rest)

pub body_record : (rest : List ℕ) → AllByRecursion (λ b. in_record b ≡ true) (body rest)
body_record [] = tt
body_record (b ∷ rest) =
    rw (take_while-cons in_record b rest)
    (cond_both (in_record b) _ _ (AllByRecursion (λ c. in_record c ≡ true)) (λ e. (e, body_record rest)) (λ _. tt))

pub body-append : (bytes behind : List ℕ) → AllByRecursion (λ b. in_record b ≡ true) bytes → body behind ≡ []
    → body (bytes ++ behind) ≡ bytes
body-append [] behind h e = e
body-append (b ∷ bytes) behind h e =
    take_while-cons in_record b (bytes ++ behind)
    ∙ cond-true (in_record b) _ _ h.0
    ∙ ap (λ bs. b ∷ bs) (body-append bytes behind h.1 e)
