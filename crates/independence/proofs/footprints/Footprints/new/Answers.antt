use Rattle.std.proofs.Common.{refl}
use Rattle.independence.proofs.Clashes.{apart_by_records}
use Rattle.independence.proofs.footprints.Footprints.new.Goals as goal

pub returns : goal.returns
returns c =
    record {
      table = refl;
      meaning = apart_by_records c.args.events.now.text.now c.args.events.now.entries;
    }
