-- All events of a tree are below 64.
use Rattle.traces.specs.Expressions.{EventsBelow}
use Rattle.expressions.specs.Model.{model}
use Rattle.expressions.specs.declared.expr.Expr.{Expr}
use Rattle.expressions.specs.declared.expr.Expr.TheVariants.{Event, One, Zero, Sum', Cat', Star'}

pub events_below : (e : Expr) → EventsBelow 64 (model e)
events_below (Event e) = e.small
events_below One = tt
events_below Zero = tt
events_below (Sum' p e q f) = (events_below e, events_below f)
events_below (Cat' p e q f) = (events_below e, events_below f)
events_below (Star' p e) = events_below e
