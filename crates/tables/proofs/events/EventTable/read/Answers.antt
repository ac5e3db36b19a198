use Rattle.std.proofs.Common.{◌≡◌, Ok, rules}
use Rattle.tables.specs.Tabling.{event_table}
use Rattle.tables.proofs.Tabulated.{table_tabulated}
use Rattle.tables.proofs.events.EventTable.read.Goals as goal

pub invariant_of-result : goal.invariant_of-result
invariant_of-result c = record { exact = ∣ search rules ∣₁ }

pub returns-clause-tabulated : goal.returns-clause-tabulated
returns-clause-tabulated c =
    let told : event_table c.args.text.now ≡ Ok c.in_ok-entries.entries = search rules in table_tabulated _ _ told
