-- The parts of a field that an iterator has left.
use Rattle.std.specs.Prelude.{List, [], drop}
use Rattle.std.specs.Option.{option_map_or}
use Rattle.lines.specs.declared.field.Field.{Field}
use Rattle.lines.specs.declared.field.Parts.{Parts}
use Rattle.lines.specs.Fields.{parted}

-- its separator parts the bytes from the next part's start on
abbrev pub parts_left : Parts → List Field
parts_left p = option_map_or (λ start. parted p.separator start start (drop start p.text.now)) p.start []
