use Rattle.std.proofs.Common.{◌∷◌, vec_items, sym, ap, ◌∙◌}
use Rattle.std.proofs.lemmas.List.{append-nil}
use Rattle.areas.specs.Pages.{ahead}
use Rattle.areas.proofs.Walks.{pages_from-met}
use Rattle.areas.proofs.index.pages_of.Goals as goal

pub returns-in_default : goal.returns-in_default
returns-in_default c =
    c.new.ensures.items
    ∙ sym (pages_from-met c.args.memory.now c.args.first _ (sym c.if-not-is_whole.ensures) c.loop-page.invariant (c.in-Some.ensures.steps ∙ ap (λ o. o ∷ ahead c.next.new.self) c.in_default.is))

pub returns : goal.returns
returns c =
    sym (pages_from-met c.args.memory.now c.args.first _ (sym c.if-not-is_whole.ensures) c.loop-page.invariant c.in-None.ensures.steps.0 ∙ append-nil (vec_items c.loop-page.pages))
