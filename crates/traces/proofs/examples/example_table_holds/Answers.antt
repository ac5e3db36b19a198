use Rattle.traces.proofs.Worked.{example_table}
use Rattle.traces.proofs.examples.example_table_holds.Goals as goal

pub returns : goal.returns
returns c = example_table
