use Rattle.std.proofs.Common.{◌≡◌}
use Rattle.std.specs.Iterator.Adapters.{enumerate_count, enumerate_source}
use Rattle.std.specs.Slice.Iter.{chunks_exact_rest, chunks_exact_size}
use Rattle.store.specs.Spans.{put}
use Rattle.store.proofs.Cutting.{IsCut}
use Rattle.store.proofs.spans.write_span.Given as goal

abbrev pub invariant-loop-i : goal.invariant-loop-i
invariant-loop-i g l = record {
  cut : IsCut l.buffer (chunks_exact_rest (enumerate_source l.i-iterator)) (chunks_exact_size (enumerate_source l.i-iterator)) (enumerate_count l.i-iterator);
  written : g.S.SegmentStore.row l.store ≡ put (g.S.SegmentStore.row l.initial.store) l.first (enumerate_count l.i-iterator) l.buffer;
  kept : g.S.SegmentStore.fixed l.store ≡ g.S.SegmentStore.fixed l.initial.store;
}
