-- What a step makes of an expression: its event is taken, by what holds to be independent under its rule.
use Rattle.std.specs.Prelude.{List}
use Rattle.traces.specs.Words.{Rel}
use Rattle.traces.specs.Expressions.{Exp}
use Rattle.traces.specs.Derivatives.{keep, derivatives, next}
use Rattle.derivatives.specs.declared.step.Step.{Step}

module _ {I : Type 0} (relation : I → Rel) (s : Step I) where
  -- what the expression keeps beside the event
  abbrev pub kept : Exp → Exp
  kept E = keep (relation s.rule.now) s.event E

  -- its derivatives by the event
  abbrev pub derived : Exp → List Exp
  derived E = derivatives (relation s.rule.now) s.event E

  -- the derivatives of all of the list
  abbrev pub next_of : List Exp → List Exp
  next_of Es = next (relation s.rule.now) s.event Es
