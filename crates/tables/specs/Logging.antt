-- What reading a log gives, event by event, and what a whole log gives.
use Rattle.std.specs.Prelude.{◌≡◌, ℕ, ◌↔◌, List, [], ◌∷◌, map, Some, None, Ok, Err, codes, Option, Result, slice_index_or}
use Rattle.lines.specs.declared.fault.LinesFault.{LinesFault}
use Rattle.lines.specs.declared.field.Field.{Field}
use Rattle.lines.specs.Fields.{bytes_of}
use Rattle.lines.specs.Reading.{next_record}
use Rattle.lines.specs.Texts.{ReadsOn}
use Rattle.tables.specs.declared.fault.NamesFault.{NamesFault}
use Rattle.tables.specs.declared.fault.NamesFault.TheVariants.{Lines}
use Rattle.tables.specs.declared.log.LogReader.{LogReader}
use Rattle.tables.specs.Entering.{Table}
use Rattle.tables.specs.Heading.{opened_by}
use Rattle.tables.specs.Knowing.{known_in}
use Rattle.tables.specs.Numbering.{no_field, number_of}
use Rattle.tables.specs.Telling.{and_then}

-- at most 16,384 bytes and the header, which is event; behind it the reader goes on
abbrev pub opened_log : List ℕ → Result ℕ NamesFault
opened_log text = opened_by 16384 (codes "event" ∷ []) text

-- table is the text of the event table, and text that of the log
module _ (table : List ℕ) (t : Table) (text : List ℕ) where
  -- the event of a reading, and the place behind it
  abbrev pub event_read : Result (Option (List Field × ℕ)) LinesFault → Result (Option (ℕ × ℕ)) NamesFault
  event_read (Ok None) = Ok None
  event_read (Ok (Some read)) =
      and_then (known_in table t.events text (slice_index_or read.0 0 no_field)) (λ event. Ok (Some (event, read.1)))
  event_read (Err f) = Err (Lines f)

  -- what is read at a place behind the header: nothing at the end of the text
  abbrev pub next_event : ℕ → Result (Option (ℕ × ℕ)) NamesFault
  next_event place = event_read (next_record 1 text place)

  -- reading on from a place to the end of the log gives these events
  abbrev pub LogsOn : ℕ → List ℕ → Type 0
  LogsOn place [] = next_event place ≡ Ok None
  LogsOn place (e ∷ es) = (behind : ℕ) × (next_event place ≡ Ok (Some (e, behind))) × LogsOn behind es

  -- the number of the event that a record names
  abbrev pub number_in : List Field → Option ℕ
  number_in r = number_of table t.events (bytes_of text (slice_index_or r 0 no_field))

  -- the events are the numbers of the names in the records, in their order
  abbrev pub Named : ℕ → List ℕ → Type 0
  Named place es = (rs : List (List Field)) × ReadsOn 1 text place rs × (map number_in rs ≡ map (λ n. Some n) es)

  -- reading a log to its end gives just the numbers of its records' names
  unfoldable pub Logged : ℕ → Type 0
  Logged place = (es : List ℕ) → LogsOn place es ↔ Named place es

-- what a reader reads next
abbrev pub upcoming : LogReader → Result (Option (ℕ × ℕ)) NamesFault
upcoming l = next_event l.events.now.text.now l.events.now.entries l.records.text.now l.records.position.place

-- the event of what was read
abbrev pub event_of : Result (Option (ℕ × ℕ)) NamesFault → Result (Option ℕ) NamesFault
event_of (Ok None) = Ok None
event_of (Ok (Some read)) = Ok (Some read.0)
event_of (Err f) = Err f

-- the place after a reading at a place: a refusal and the end of the text leave it
abbrev pub place_behind : ℕ → Result (Option (ℕ × ℕ)) NamesFault → ℕ
place_behind place (Ok None) = place
place_behind place (Ok (Some read)) = read.1
place_behind place (Err f) = place
