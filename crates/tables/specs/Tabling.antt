-- The event table that a text tabulates.
use Rattle.std.specs.Prelude.{ℕ, List, [], ◌∷◌, codes, Result}
use Rattle.tables.specs.declared.fault.NamesFault.{NamesFault}
use Rattle.tables.specs.Entering.{Table, no_entries, add_record}
use Rattle.tables.specs.Folding.{records_from}
use Rattle.tables.specs.Heading.{opened_by}
use Rattle.tables.specs.Telling.{and_then}

abbrev pub event_header : List (List ℕ)
event_header = codes "event" ∷ codes "process" ∷ codes "reads" ∷ codes "writes" ∷ []

-- at most 8,192 bytes, the header, and then the records one after another
abbrev pub event_table : List ℕ → Result Table NamesFault
event_table text =
    and_then (opened_by 8192 event_header text) (λ place.
    records_from 4 (add_record text) text place no_entries)
