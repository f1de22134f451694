use Rattle.std.proofs.Common.{◌≡◌, ◌+◌, ◌*◌, ◌/◌, ◌^◌, ◌<◌, ◌≤◌, length, sym, ap, ◌∙◌, subst, arith, length-drop}
use Rattle.store.specs.Spans.{put}
use Rattle.store.proofs.Cutting.{IsCut, CutsNext, cut_more}
use Rattle.store.proofs.SpanLaws.{number_fits, never_refused_behind, put_more, put_wrote}
use Rattle.store.proofs.spans.write_span.Goals as goal
use Rattle.store.proofs.spans.write_span.Goals.{In-Some}

cuts : (g : _) (c : In-Some g) → CutsNext c.args.buffer.now c.next.new.self.iter.rest.now c.in-Some.part.now c.next.new.self.iter.size c.loop-i.i-iterator.count c.in-Some.i
cuts g c = cut_more _ _ _ _ _ _ _ _ c.loop-i.invariant.cut c.in-Some.ensures.steps.1 c.in-Some.ensures.steps.0.0 c.in-Some.ensures.steps.0.1.0 c.in-Some.ensures.steps.0.1.1

inside : (g : _) (c : In-Some g) → c.in-Some.i < c.in_ok-probed.field-0
inside g c = omega (arith, (cuts g c).there, c.in_ok-probed.ensures.whole)

pub overflow_add-first : goal.overflow_add-first
overflow_add-first g c =
    let f : c.args.first < 2 ^ 64 = omega arith in
    let i : c.in-Some.i ≤ c.in_ok-probed.field-0 = omega (arith, inside g (goal.at.overflow_add-first g c).In-Some) in
    omega (arith, number_fits (g.S.SegmentStore.row c.args.store.now) c.args.first c.in-Some.i c.in_ok-probed.field-0 (g.met.S.SegmentStore.proper c.args.store.now) f i c.in_ok-probed.ensures.there)

pub loop-i-preserved : goal.loop-i-preserved
loop-i-preserved g c =
    let at = (goal.at.loop-i-preserved g c).In-Some in
    let t = cuts g at in
    let row = g.S.SegmentStore.row c.args.store.now in
    let i = c.in-Some.i in
    let z : i ≡ c.loop-i.i-iterator.count = c.in-Some.ensures.steps.1 in
    record {
      cut = subst (λ k. IsCut c.args.buffer.now c.next.new.self.iter.rest.now c.next.new.self.iter.size k) (sym c.in-Some.ensures.steps.2) t.onward;
      written = put_more row (g.S.SegmentStore.row c.loop-i.store) _ c.args.first c.in_ok-probed.field-0 i c.args.buffer.now c.in-Some.part.now c.in_ok-probed.ensures.there (inside g at)
          (c.loop-i.invariant.written ∙ ap (λ k. put row c.args.first k c.args.buffer.now) (sym z)) t.is t.long c.write.ensures.after
          ∙ ap (λ k. put row c.args.first k c.args.buffer.now) (ap (λ k. k + 1) z ∙ sym c.in-Some.ensures.steps.2);
      kept = c.write.ensures.kept ∙ c.loop-i.invariant.kept;
    }

pub returns-in_err-of_file : goal.returns-in_err-of_file
returns-in_err-of_file g c =
    let at = (goal.at.returns-in_err-of_file g c).In-Some in
    let t = cuts g at in
    let z : c.in-Some.i ≡ c.loop-i.i-iterator.count = c.in-Some.ensures.steps.1 in
    absurd (never_refused_behind (g.S.SegmentStore.row c.args.store.now) (g.S.SegmentStore.row c.loop-i.store) c.args.file c.args.first c.in_ok-probed.field-0 c.in-Some.i _ c.args.buffer.now c.write.result _
    c.in_ok-probed.ensures.there (inside g at) (c.loop-i.invariant.written ∙ ap (λ k. put (g.S.SegmentStore.row c.args.store.now) c.args.first k c.args.buffer.now) (sym z)) t.long c.write.ensures.value c.in_err-of_file.ensures)

pub returns-clause-wrote : goal.returns-clause-wrote
returns-clause-wrote g c =
    let b = c.args.buffer.now in
    let n = c.in_ok-probed.field-0 in
    let cut = c.loop-i.invariant.cut in
    let all : c.loop-i.i-iterator.count ≡ n =
    omega (arith, cut.by, cut.inside, ap length cut.left, length-drop (c.loop-i.i-iterator.count * 512) b, c.in_ok-probed.ensures.whole, c.in-None.ensures.steps.0.1.0) in
    let whole : length b / 512 ≡ n = omega (arith, c.in_ok-probed.ensures.whole) in
    λ done. rw (c.loop-i.invariant.written, all, whole) (put_wrote (g.S.SegmentStore.row c.args.store.now) c.args.first n b c.in_ok-probed.ensures.whole c.in_ok-probed.ensures.there)
