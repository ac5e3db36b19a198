-- The trace closure of an expression: every word that exchanges turn into a word of the expression.
use Rattle.traces.specs.Words.{Word, Rel}
use Rattle.traces.specs.Expressions.{Exp, Matches}
use Rattle.traces.specs.Exchanges.{Exchanges}

abbrev pub Closure : Rel → Exp → Word → Type 0
Closure rel E w = (u : Word) × Exchanges rel w u × Matches E u
