-- What the derivatives of a Cat and of a Star are joined of.
use Rattle.std.specs.Prelude.{List, map}
use Rattle.traces.specs.Expressions.{Exp, event, one, zero, sum, cat, star}
use Rattle.traces.specs.Normal.{cat_of}
use Rattle.traces.specs.Derivatives.{nonzero}

-- each of the list between K and F, but those that are Zero
abbrev pub between : Exp → Exp → List Exp → List Exp
between K F Es = nonzero (map (λ E. cat_of K (cat_of E F)) Es)

-- what stands behind a round of the Star W of the expression: W, or the expression if it is a Star already
abbrev pub behind : Exp → Exp → Exp
behind W (event b) = W
behind W one = W
behind W zero = W
behind W (sum E F) = W
behind W (cat E F) = W
behind W (star E) = star E
