use Rattle.tables.proofs.Logs.{logged}
use Rattle.tables.proofs.log.LogReader.open.Goals as goal

pub returns-clause-logged : goal.returns-clause-logged
returns-clause-logged c = logged _ _ _ c.args.events.now.exact _
