use Rattle.std.proofs.lemmas.Result.{err_from_is_err_and}
use Rattle.store.proofs.SpanLaws.{probe_refused}
use Rattle.store.proofs.spans.probe_span.Goals as goal

pub returns-in_err-of_file : goal.returns-in_err-of_file
returns-in_err-of_file g c =
    let p = err_from_is_err_and c.from_residual.result c.from_residual.ensures.1 in
    rw (p.1, p.2)
    (probe_refused (g.S.SegmentStore.row c.args.store.now) c.args.file c.args.first c.loop-i.i c.args.n _ c.read.result _
    c.loop-i.invariant.1 c.loop-i-test.true c.loop-i.invariant.0 c.read.ensures.value c.in_err-of_file.ensures)
