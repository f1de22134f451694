-- A walk along a chain. Assumes nothing.
use Rattle.std.specs.Prelude.{ℕ, List, Option}
use Rattle.areas.specs.declared.index.Pages.{Pages}
use Rattle.areas.specs.ChainedRows.{pages_met}

-- what lies ahead of a walk
abbrev pub ahead : Pages → List (Option ℕ)
ahead w = pages_met w.memory.now w.left w.next
