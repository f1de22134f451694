use Rattle.std.proofs.Common.{◌/◌, length, is_some, sym, ◌∙◌, rules}
use Rattle.std.proofs.lemmas.Iterator.Consumers.{YieldsList-from_first}
use Rattle.std.proofs.lemmas.Iterator.Search.{all_from_yields_List}
use Rattle.areas.specs.Pages.{ahead}
use Rattle.areas.proofs.Walks.{found-met}
use Rattle.areas.proofs.index.ends.Goals as goal

pub returns-then-first-ne0 : goal.returns-then-first-ne0
returns-then-first-ne0 c =
    let m = c.args.memory.now in
    all_from_yields_List is_some c.all.new.self _ c.all.result c.all.ensures.ran (YieldsList-from_first (λ x. x) ahead {s = c.new.result} _ c.new.ensures) (λ x r q k. search rules)
    ∙ sym (found-met m (length m / 516) c.args.first c.if-first-ne0.true)
