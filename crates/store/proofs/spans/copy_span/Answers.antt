use Rattle.std.proofs.Common.{◌≡◌, ◌+◌, length, get_or, Ok, sym, ap, ◌∙◌, arith}
use Rattle.store.specs.Rows.{bad, bytes_of, answer}
use Rattle.store.specs.Spans.{span, probe}
use Rattle.store.proofs.SpanLaws.{probed, probe_done, never_refused, never_refused_behind, only_done, put_more, put_wrote, length-span, span_at}
use Rattle.store.proofs.spans.copy_span.Goals as goal
use Rattle.store.proofs.spans.copy_span.Goals.{In_ok-probe_span, In_ok-probe_span-2}

from_there : (g : _) (c : In_ok-probe_span g) → probe (g.S.SegmentStore.row c.args.from.now) c.args.first c.args.n ≡ Ok tt
from_there g c = probe_done (g.S.SegmentStore.row c.args.from.now) c.args.file c.args.first c.args.n _ c.in_ok-probe_span.ensures

to_there : (g : _) (c : In_ok-probe_span-2 g) → probe (g.T.SegmentStore.row c.args.to.now) c.args.first c.args.n ≡ Ok tt
to_there g c = probe_done (g.T.SegmentStore.row c.args.to.now) c.args.file c.args.first c.args.n _ c.in_ok-probe_span-2.ensures

pub returns-in_err-of_file : goal.returns-in_err-of_file
returns-in_err-of_file g c =
    absurd (never_refused (g.S.SegmentStore.row c.args.from.now) c.args.file c.args.first c.args.n c.loop-i.i _ c.read.result _
    (from_there g (goal.at.returns-in_err-of_file g c).In_ok-probe_span) c.loop-i-test.true c.loop-i.invariant.long c.read.ensures.value c.in_err-of_file.ensures)

pub returns-in_err-of_file-2 : goal.returns-in_err-of_file-2
returns-in_err-of_file-2 g c =
    let from = g.S.SegmentStore.row c.args.from.now in
    absurd (never_refused_behind (g.T.SegmentStore.row c.args.to.now) (g.T.SegmentStore.row c.loop-i.to) c.args.file c.args.first c.args.n c.loop-i.i _ (span from c.args.first c.args.n) c.write.result _
    (to_there g (goal.at.returns-in_err-of_file-2 g c).In_ok-probe_span-2) c.loop-i-test.true c.loop-i.invariant.copied (c.read.auto.buffer ∙ c.loop-i.invariant.long) c.write.ensures.value c.in_err-of_file-2.ensures)

pub loop-i-preserved : goal.loop-i-preserved
loop-i-preserved g c =
    let s = c.args.from.now in
    let row = g.S.SegmentStore.row s in
    let first = c.args.first in
    let i = c.loop-i.i in
    let f = from_there g (goal.at.loop-i-preserved g c).In_ok-probe_span in
    let t = to_there g (goal.at.loop-i-preserved g c).In_ok-probe_span-2 in
    let n : length c.read.new.buffer ≡ 512 = c.read.auto.buffer ∙ c.loop-i.invariant.long in
    let a : answer row (first + i) (length c.loop-i.segment) ≡ Ok tt = ap (answer row (first + i)) c.loop-i.invariant.long ∙ probed row first c.args.n i f c.loop-i-test.true in
    let part = c.read.ensures.after ∙ only_done (answer row (first + i) (length c.loop-i.segment)) (bytes_of (get_or row (first + i) bad)) c.loop-i.segment a ∙ sym (span_at row first c.args.n i (g.met.S.SegmentStore.proper s) f c.loop-i-test.true) in
    record {
      long = n;
      copied = put_more (g.T.SegmentStore.row c.args.to.now) (g.T.SegmentStore.row c.loop-i.to) _ first c.args.n i (span row first c.args.n) _ t c.loop-i-test.true c.loop-i.invariant.copied part n c.write.ensures.after;
      kept = c.write.ensures.kept ∙ c.loop-i.invariant.kept;
    }

pub returns-clause-wrote : goal.returns-clause-wrote
returns-clause-wrote g c =
    let s = c.args.from.now in
    let from = g.S.SegmentStore.row s in
    let to = g.T.SegmentStore.row c.args.to.now in
    let first = c.args.first in
    let n = c.args.n in
    let i : c.loop-i.i ≡ n = omega arith in
    let f = from_there g (goal.at.returns-clause-wrote g c).In_ok-probe_span in
    let t = to_there g (goal.at.returns-clause-wrote g c).In_ok-probe_span-2 in
    λ done. rw (c.loop-i.invariant.copied, i) (put_wrote to first n (span from first n) (length-span from first n (g.met.S.SegmentStore.proper s) f) t)
