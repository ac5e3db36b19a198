use Rattle.traces.proofs.Ordering.{size_counts_symbols}
use Rattle.traces.proofs.order.size_counts_symbols_holds.Goals as goal

pub returns : goal.returns
returns c = size_counts_symbols
