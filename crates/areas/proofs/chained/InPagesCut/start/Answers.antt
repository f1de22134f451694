use Rattle.std.proofs.Common.{arith, rules}
use Rattle.areas.proofs.ChainParts.{from_one, page_inside, page_start}
use Rattle.areas.proofs.chained.InPagesCut.start.Goals as goal

pub overflow_sub-base : goal.overflow_sub-base
overflow_sub-base c = search (rules, from_one)

pub bounds-memory-base : goal.bounds-memory-base
bounds-memory-base c = omega (arith, page_inside c.args.self.now c.args.memory.now c.requires c.args.segment c.in_ok-page.field-0.now (search rules) (search rules))

pub returns : goal.returns
returns c = page_start c.args.self.now c.args.memory.now c.requires c.args.segment c.in_ok-page.field-0.now (search rules) (search rules) _ (search rules)
