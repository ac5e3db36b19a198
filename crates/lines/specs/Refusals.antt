-- What each fault of the lines layer tells: its number, the place of the byte that it names, and its layer.
use Rattle.lines.specs.declared.fault.Layer.TheVariants.{Lines}
use Rattle.lines.specs.declared.fault.Refusal.{Refusal}
use Rattle.lines.specs.declared.fault.LinesFault.{LinesFault}
use Rattle.lines.specs.declared.fault.LinesFault.TheVariants.{TooLong, ForeignByte, StrayBreak, FieldCount}

abbrev pub lines_refusal : LinesFault → Refusal
lines_refusal TooLong = record { number = 1; place = 0; layer = Lines }
lines_refusal (ForeignByte at) = record { number = 2; place = at; layer = Lines }
lines_refusal (StrayBreak at) = record { number = 3; place = at; layer = Lines }
lines_refusal (FieldCount at) = record { number = 4; place = at; layer = Lines }
