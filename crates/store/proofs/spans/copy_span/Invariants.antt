use Rattle.std.proofs.Common.{◌≡◌, length}
use Rattle.store.specs.Spans.{span, put}
use Rattle.store.proofs.spans.copy_span.Given as goal

abbrev pub invariant-loop-i : goal.invariant-loop-i
invariant-loop-i g l = record {
  long : length l.segment ≡ 512;
  copied : g.T.SegmentStore.row l.to ≡ put (g.T.SegmentStore.row l.initial.to) l.first l.i (span (g.S.SegmentStore.row l.from) l.first l.n);
  kept : g.T.SegmentStore.fixed l.to ≡ g.T.SegmentStore.fixed l.initial.to;
}
