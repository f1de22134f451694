use Rattle.std.proofs.Common.{length, ap, ◌∙◌}
use Rattle.areas.specs.ChainedRows.{indexed}
use Rattle.areas.proofs.Pool.{pages_indexed}
use Rattle.areas.proofs.index.Chain.of.Goals as goal

pub invariant_of-result : goal.invariant_of-result
invariant_of-result c =
    let m = c.args.memory.now in
    record { sound = ap (indexed (length m)) c.in_ok-pages_of.ensures ∙ pages_indexed m c.args.first }
