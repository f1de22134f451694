use Rattle.std.proofs.Common.{◌≡◌, ◌*◌, take}
use Rattle.store.specs.Spans.{span}
use Rattle.store.proofs.spans.read_span.Given as goal

abbrev pub invariant-loop-i : goal.invariant-loop-i
invariant-loop-i g l = take (l.i * 512) l.buffer ≡ span (g.S.SegmentStore.row l.store) l.first l.i
