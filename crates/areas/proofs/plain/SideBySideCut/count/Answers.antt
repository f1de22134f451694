use Rattle.areas.specs.Laws.{length-plain_row}
use Rattle.areas.proofs.plain.SideBySideCut.count.Goals as goal

pub returns : goal.returns
returns c = let e = length-plain_row c.args.memory.now in cc
