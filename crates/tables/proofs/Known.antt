-- What a name that is known has: a number below the count.
use Rattle.std.proofs.Common.{◌≡◌, ℕ, ◌<◌, ◌≤◌, List, length, Some, None, Ok, Option, sym, ap, arith}
use mathlib.Core.Logic.{∥∥₁_elim}
use native.Mathlib.Bridge.{le_prop}
use Rattle.lines.specs.declared.field.Field.{Field}
use Rattle.lines.specs.Fields.{bytes_of}
use Rattle.tables.specs.Entering.{Table}
use Rattle.tables.specs.Knowing.{known, known_in}
use Rattle.tables.specs.Naming.{named}
use Rattle.tables.specs.Numbering.{number_of}
use Rattle.tables.specs.Tabling.{event_table}
use Rattle.tables.proofs.Numbers.{number_below}
use Rattle.tables.proofs.Tabulated.{processes_few}
use Rattle.tables.proofs.Turns.{and_then_made}

known_some : (place : ℕ) (o : Option ℕ) (n : ℕ) → known place o ≡ Ok n → o ≡ Some n
known_some place (Some m) n e = cc
known_some place None n e = cc

module _ (table : List ℕ) (names : List Field) (text : List ℕ) (f : Field) (n : ℕ) (e : known_in table names text f ≡ Ok n) where
  pub known_number : number_of table names (bytes_of text f) ≡ Some n
  known_number = known_some f.start _ n (and_then_made (named text f f.start) _ n e).2

  pub known_below : n < length names
  known_below = number_below table names (bytes_of text f) n known_number

module _ (table : List ℕ) (t : Table) (exact : ∥ event_table table ≡ Ok t ∥₁) where
  pub few_processes : length t.processes ≤ 16
  few_processes = ∥∥₁_elim exact le_prop (processes_few table t)

  -- by the names of the processes as they are at hand
  pub process_below : (names : List Field) → names ≡ t.processes → (known : List ℕ) (text : List ℕ) (f : Field) (p : ℕ)
      → Ok p ≡ known_in known names text f → p < 16
  process_below names same known text f p e = omega (arith, known_below known names text f p (sym e), ap length same, few_processes)
