use Rattle.std.proofs.Common.{◌≡◌}
use Rattle.lines.specs.Parts.{parts_left}
use Rattle.tables.specs.Entering.{add_each, add_cells}
use Rattle.tables.proofs.entries.Entries.add_cells.Given as goal

abbrev pub invariant-loop-cell : goal.invariant-loop-cell
invariant-loop-cell l =
    add_each l.text l.event l.access l.field.start (parts_left l.cell-iterator) l.self ≡ add_cells l.text l.event l.access l.field l.initial.self
