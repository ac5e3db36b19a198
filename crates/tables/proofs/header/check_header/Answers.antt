use Rattle.std.proofs.Common.{ℕ, List, drop, map, Bor, sym, ap, ◌∙◌}
use Rattle.std.proofs.lemmas.List.{length_push}
use Rattle.std.proofs.lemmas.Slice.Zip.{zip_turn}
use Rattle.tables.specs.Heading.{headed_by}
use Rattle.tables.proofs.Heads.{header_stops, header_goes_on}
use Rattle.tables.proofs.header.check_header.Goals as goal

pub returns-then-not-holds : goal.returns-then-not-holds
returns-then-not-holds c =
    let at = zip_turn c.args.header.now c.args.names.now c.loop-field.yielded c.into_iter-field-iterator.result c.loop-field.field-iterator c.next.new.self c.next.result (cc) (cc) c.loop-field.yielded_by _ c.in-Some.is c.next.ensures.steps in
    sym (header_stops c.args.text.now _ _ _ c.in-Some.field.now c.in-Some.name.now at (sym c.holds.ensures ∙ c.if-not-holds.true)) ∙ c.loop-field.invariant

pub loop-field-preserved : goal.loop-field-preserved
loop-field-preserved c =
    let at = zip_turn c.args.header.now c.args.names.now c.loop-field.yielded c.into_iter-field-iterator.result c.loop-field.field-iterator c.next.new.self c.next.result (cc) (cc) c.loop-field.yielded_by _ c.in-Some.is c.next.ensures.steps in
    ap (λ i. headed_by c.args.text.now (drop i (map (λ (n : Bor (List ℕ)). n.now) c.args.names.now)) (drop i c.args.header.now)) (length_push c.loop-field.yielded (c.in-Some.field, c.in-Some.name))
    ∙ sym (header_goes_on c.args.text.now _ _ _ c.in-Some.field.now c.in-Some.name.now at (sym c.holds.ensures ∙ c.if-not-holds.false))
    ∙ c.loop-field.invariant
