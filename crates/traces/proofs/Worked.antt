-- The worked examples compute.
use Rattle.std.proofs.Common.{refl}
use Rattle.traces.specs.Examples.{ExampleTable}

pub example_table : ExampleTable
example_table = (
  refl,
  refl,
  refl,
  refl,
  refl,
  refl,
  refl,
  refl,
  refl,
  refl,
  refl,
  refl,
  refl,
  refl,
  refl,
  refl,
  refl,
  refl,
  refl,
  refl,
  refl,
)
