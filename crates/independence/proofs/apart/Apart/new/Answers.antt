use Rattle.std.proofs.Common.{refl}
use Rattle.independence.specs.Parting.{apart_by_processes}
use Rattle.independence.proofs.Processes.{processes_by_pairs}
use Rattle.independence.proofs.Saying.{by_list}
use Rattle.independence.proofs.apart.Apart.new.Goals as goal

pub returns : goal.returns
returns c =
    let events = c.args.events.now in
    let pairs = c.args.pairs.now in
    let t = events.entries in
    let by = processes_by_pairs pairs t events.text.now events.exact in
    record { table = refl; pairs = refl; meaning = by; said = by_list events.text.now t pairs (apart_by_processes t pairs) by }
