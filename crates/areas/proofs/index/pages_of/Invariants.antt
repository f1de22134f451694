use Rattle.std.proofs.Common.{◌≡◌, ◌/◌, ◌++◌, length, map, Some, vec_items}
use Rattle.areas.specs.ChainedRows.{pages_met}
use Rattle.areas.specs.Pages.{ahead}
use Rattle.areas.proofs.index.pages_of.Given as goal

abbrev pub invariant-loop-page : goal.invariant-loop-page
invariant-loop-page l = pages_met l.memory (length l.memory / 516) l.fn.first ≡ map Some (vec_items l.pages) ++ ahead l.page-iterator
