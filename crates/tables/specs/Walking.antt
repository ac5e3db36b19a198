-- The names that an iterator has left.
use Rattle.std.specs.Prelude.{ℕ, List}
use Rattle.tables.specs.declared.names.Iter.{Iter}
use Rattle.tables.specs.Tabulating.{names_of}

-- what its fields hold, one after another
abbrev pub names_left : Iter → List (List ℕ)
names_left it = names_of it.text.now it.fields.now
