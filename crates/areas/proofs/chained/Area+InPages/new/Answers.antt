use Rattle.std.proofs.Common.{rules}
use Rattle.areas.proofs.Lending.{area_row}
use Rattle.areas.proofs.chained.Area+InPages.new.Goals as goal

pub returns-clause-row : goal.returns-clause-row
returns-clause-row c = area_row c.args.memory.now c.args.chain.now c.if-fits.pages.now (search rules)
