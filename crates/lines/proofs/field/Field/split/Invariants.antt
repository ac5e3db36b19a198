use Rattle.std.proofs.Common.{◌≡◌, ◌++◌, length, take}
use Rattle.lines.specs.Fields.{bytes_of, fields_at}
use Rattle.lines.specs.Parts.{parts_left}
use Rattle.lines.proofs.field.Field.split.Given as goal

abbrev pub invariant-loop-field : goal.invariant-loop-field
invariant-loop-field g l =
    (length l.field-items ≡ g.row.WIDTH)
    × (take l.field-index l.field-items ++ parts_left l.parts ≡ fields_at l.fn.self.start (bytes_of l.fn.text l.fn.self))
