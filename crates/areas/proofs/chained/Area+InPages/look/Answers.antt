use Rattle.std.proofs.Common.{arith}
use Rattle.std.proofs.lemmas.Grind.{common_steps}
use Rattle.areas.proofs.Pool.{look_means}
use Rattle.areas.proofs.chained.Area+InPages.look.Goals as goal

pub returns-then-not-ends-clause-means : goal.returns-then-not-ends-clause-means
returns-then-not-ends-clause-means c = grind (arith, common_steps, look_means)

pub returns-clause-means : goal.returns-clause-means
returns-clause-means c = grind (arith, common_steps, look_means)
