use Rattle.std.proofs.Common.{◌≡◌, ◌+◌, ◌-◌, ap₂, arith, rules}
use borrow.Rule.Slice.PartMut.{put_mid}
use Rattle.areas.proofs.Memory.{marks_written}
use Rattle.areas.proofs.area.AreaSegmentStore.write.Goals as goal

pub returns-clause-marks : goal.returns-clause-marks
returns-clause-marks g c =
    let m = c.args.self.now.memory.now in
    let start = c.in_ok-start.start in
    let size : start + 512 - start ≡ 512 = omega arith in
    marks_written (g.C.Cut.row c.args.self.now.cut) _ m _ c.args.segment _ start c.args.buffer.now c.in_ok-start.ensures (search rules) (ap₂ (λ k ys. put_mid start k m ys) size c.copy_from_slice.ensures.after)
