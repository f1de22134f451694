use Rattle.std.proofs.Common.{vec_items}
use Rattle.cellar.proofs.Pages.{ChainsSoFar}
use Rattle.cellar.proofs.text.laid_out.Given as goal

abbrev pub invariant-loop-before : goal.invariant-loop-before
invariant-loop-before l = ChainsSoFar l.pages (vec_items l.pool) l.before
