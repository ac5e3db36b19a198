use Rattle.std.proofs.Common.{rules, sym, ◌∙◌}
use Rattle.std.proofs.lemmas.Bool.Decides.{Decides-at}
use Rattle.std.proofs.lemmas.Iterator.{YieldsList-from_slice}
use Rattle.std.proofs.lemmas.Iterator.Search.{any_from_yields_List}
use borrow.Author.Tests.{tests}
use Rattle.traces.specs.Derivatives.{nullable}
use Rattle.expressions.specs.Model.{model, models}
use Rattle.sets.proofs.Searching.{some_decides, list_any-models}
use Rattle.sets.proofs.nullable.any_nullable.Goals as goal

pub returns : goal.returns
returns c =
    Decides-at _ _
    (any_from_yields_List (λ e. nullable (model e)) _ _ c.any.result c.any.ensures.ran (YieldsList-from_slice c.args.members.now cc) (λ x b q k. search (rules, tests))
    ∙ sym (list_any-models nullable c.args.members.now))
    (some_decides nullable (models c.args.members.now))
