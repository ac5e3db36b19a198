use Rattle.std.proofs.Common.{◌≡◌, length, drop, map}
use Rattle.tables.specs.Heading.{headed_by}
use Rattle.tables.proofs.header.check_header.Given as goal

abbrev pub invariant-loop-field : goal.invariant-loop-field
invariant-loop-field l =
    headed_by l.text (drop (length l.yielded) (map (λ n. n.now) l.names)) (drop (length l.yielded) l.header) ≡ headed_by l.text (map (λ n. n.now) l.names) l.header
