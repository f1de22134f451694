use Rattle.std.proofs.Common.{◌≡◌, ◌*◌, rules, ap, ◌∙◌, ltb}
use Rattle.std.specs.Prelude.{IfSome}
use Rattle.areas.proofs.PlainParts.{plain_start}
use Rattle.areas.proofs.plain.SideBySideCut.start.Goals as goal

pub returns : goal.returns
returns c =
    let h : IfSome c.then.result (λ s. s ≡ c.args.segment * 512) = search rules in
    plain_start c.args.memory.now c.args.segment c.then.result (c.then.ensures.variant ∙ ap (ltb c.args.segment) c.segments.ensures) h
