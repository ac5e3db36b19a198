-- The derivatives of an expression by an event, up to exchanges, and the sets of expressions that follow from them.
use Rattle.std.specs.Prelude.{ℕ, Bool, true, false, cond, ◌&&◌, ◌||◌, List, [], ◌∷◌, ◌++◌, map, ◌==◌}
use Rattle.traces.specs.Words.{Word, Rel}
use Rattle.traces.specs.Expressions.{Exp, event, one, zero, sum, cat, star}
use Rattle.traces.specs.Normal.{is_zero, cat_of, star_of, restrict}

-- what E keeps beside a: Zero stands for every event that is not independent of a
abbrev pub keep : Rel → ℕ → Exp → Exp
keep rel a E = restrict (rel a) E

-- the list without its Zeros
abbrev pub nonzero : List Exp → List Exp
nonzero [] = []
nonzero (E ∷ Es) = cond (is_zero E) (nonzero Es) (E ∷ nonzero Es)

abbrev pub derivatives : Rel → ℕ → Exp → List Exp
derivatives rel a (event b) = cond (b == a) (one ∷ []) []
derivatives rel a one = []
derivatives rel a zero = []
derivatives rel a (sum E F) = derivatives rel a E ++ derivatives rel a F
derivatives rel a (cat E F) =
    nonzero (map (λ E'. cat_of E' F) (derivatives rel a E)) ++ nonzero (map (λ F'. cat_of (keep rel a E) F') (derivatives rel a F))
derivatives rel a (star E) =
    nonzero (map (λ E'. cat_of (star_of (keep rel a E)) (cat_of E' (star_of E))) (derivatives rel a E))

-- the next set: all derivatives of the members
abbrev pub next : Rel → ℕ → List Exp → List Exp
next rel a [] = []
next rel a (E ∷ Es) = derivatives rel a E ++ next rel a Es

-- the set after a word: the set moved by each event in turn
abbrev pub after : Rel → List Exp → Word → List Exp
after rel Es [] = Es
after rel Es (a ∷ w) = after rel (next rel a Es) w

-- the empty word is a word of the expression
abbrev pub nullable : Exp → Bool
nullable (event b) = false
nullable one = true
nullable zero = false
nullable (sum E F) = nullable E || nullable F
nullable (cat E F) = nullable E && nullable F
nullable (star E) = true
