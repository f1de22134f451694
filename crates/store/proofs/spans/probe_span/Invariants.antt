use Rattle.std.proofs.Common.{◌≡◌, length, Ok}
use Rattle.store.specs.Spans.{probe}
use Rattle.store.proofs.spans.probe_span.Given as goal

abbrev pub invariant-loop-i : goal.invariant-loop-i
invariant-loop-i g l = (length l.segment ≡ 512) × (probe (g.S.SegmentStore.row l.store) l.first l.i ≡ Ok tt)
