use Rattle.std.proofs.Common.{◌≡◌, ◌+◌, ◌-◌, ◌*◌, ◌≤◌, length, take, drop, ap, ◌∙◌, arith}
use Rattle.std.proofs.lemmas.List.{length-take, length-drop}
use Rattle.store.specs.Rows.{answer}
use Rattle.store.proofs.SpanLaws.{probed, never_refused, read_more}
use Rattle.store.proofs.spans.read_span.Goals as goal

pub returns-in_err-of_file : goal.returns-in_err-of_file
returns-in_err-of_file g c =
    let row = g.S.SegmentStore.row c.args.store.now in
    let i = c.loop-i.i in
    let long : i * 512 + 512 ≤ length c.loop-i.buffer = omega (arith, c.in_ok-n.ensures.whole) in
    absurd (never_refused row c.args.file c.args.first c.in_ok-n.n i _ c.read.result _ c.in_ok-n.ensures.there c.loop-i-test.true (simp (length-take, length-drop) (omega arith)) c.read.ensures.value c.in_err-of_file.ensures)

pub loop-i-preserved : goal.loop-i-preserved
loop-i-preserved g c =
    let row = g.S.SegmentStore.row c.args.store.now in
    let i = c.loop-i.i in
    let long : i * 512 + 512 ≤ length c.loop-i.buffer = omega (arith, c.in_ok-n.ensures.whole) in
    let part = take (i * 512 + 512 - i * 512) (drop (i * 512) c.loop-i.buffer) in
    let n : length part ≡ 512 = simp (length-take, length-drop) (omega arith) in
    let a = probed row c.args.first c.in_ok-n.n i c.in_ok-n.ensures.there c.loop-i-test.true in
    read_more row c.args.first i _ c.loop-i.buffer part c.read.new.buffer c.loop-i.invariant (omega arith) (c.read.auto.buffer ∙ n) (ap (answer row (c.args.first + i)) n ∙ a)
    c.read.ensures.after
