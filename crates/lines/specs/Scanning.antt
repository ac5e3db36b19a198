-- How far a record goes and what ends it.
use Rattle.std.specs.Prelude.{ℕ, ◌+◌, Bool, if◌then◌else◌, not, ◌&&◌, List, [], ◌∷◌, Ok, Err, Result, ◌==◌, nat_le}
use Rattle.std.specs.List.{take_while}
use Rattle.lines.specs.declared.fault.LinesFault.{LinesFault}
use Rattle.lines.specs.declared.fault.LinesFault.TheVariants.{ForeignByte, StrayBreak}

-- a byte of a record: a printable ASCII byte that is no quote, so a byte of a field or a comma
abbrev pub in_record : ℕ → Bool
in_record b = (nat_le 32 b && nat_le b 126) && not (b == 34)

-- a byte of a field
abbrev pub in_field : ℕ → Bool
in_field b = in_record b && not (b == 44)

-- the longest front of the bytes that a record can hold
abbrev pub body : List ℕ → List ℕ
body bytes = take_while in_record bytes

-- a carriage return at `end` ends the line if a line feed follows
abbrev pub returned : ℕ → List ℕ → Result ℕ LinesFault
returned end [] = Err (StrayBreak end)
returned end (b ∷ bs) = if b == 10 then Ok (end + 2) else Err (StrayBreak end)

-- where reading goes on behind a record whose own bytes end at `end`, by the bytes that stand there
abbrev pub next_line : ℕ → List ℕ → Result ℕ LinesFault
next_line end [] = Ok end
next_line end (b ∷ bs) = if b == 13 then returned end bs else (if b == 10 then Err (StrayBreak end) else Err (ForeignByte end))
