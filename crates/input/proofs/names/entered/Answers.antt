use Rattle.std.proofs.lemmas.List.{map-append}
use Rattle.std.proofs.lemmas.Iterator.Consumers.{YieldsList-end}
use Rattle.std.proofs.lemmas.Iterator.Splits.{YieldsList-from_lines}
use Rattle.input.specs.Names.{nothing, gyle, other}
use Rattle.input.proofs.Lines.{not_entered}
use Rattle.input.proofs.names.entered.Goals as goal

pub loop-line-init : goal.loop-line-init
loop-line-init c = rw c.new-records.ensures.items nothing

pub loop-line-preserved-in-Continue-1 : goal.loop-line-preserved-in-Continue-1
loop-line-preserved-in-Continue-1 c =
    let (bytes, added, is_record) = c.in_ok-push_record.ensures in
    rw (map-append, added) (gyle _ bytes _ c.loop-line.invariant c.in-Enter.ensures is_record)

pub loop-line-preserved : goal.loop-line-preserved
loop-line-preserved c = rw map-append (other _ c.loop-line.invariant (not_entered _ _ c.from.ensures c.in_default.not-Enter))

pub returns : goal.returns
returns c =
    let all = YieldsList-end (YieldsList-from_lines c.args.text.now cc) _ _ c.loop-line.yielded_by _ _ c.in-None.is c.next.ensures.steps in
    rw (← all.0) c.loop-line.invariant
