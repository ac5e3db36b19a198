-- What each fault of the lines layer prints.
use Rattle.std.specs.Prelude.{ℕ, List, ◌++◌, codes, decimal}
use Rattle.lines.specs.declared.fault.LinesFault.{LinesFault}
use Rattle.lines.specs.declared.fault.LinesFault.TheVariants.{TooLong, ForeignByte, StrayBreak, FieldCount}

-- the place, and then what is wrong there
abbrev pub at_byte : ℕ → List ℕ → List ℕ
at_byte place what = codes "byte " ++ decimal place ++ what

abbrev pub lines_message : LinesFault → List ℕ
lines_message TooLong = codes "the text is too long"
lines_message (ForeignByte at) = at_byte at (codes ": no byte of a record")
lines_message (StrayBreak at) = at_byte at (codes ": a stray line break")
lines_message (FieldCount at) = at_byte at (codes ": a wrong number of fields")
