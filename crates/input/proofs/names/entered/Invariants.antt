use Rattle.std.proofs.Common.{map, vec_items}
use Rattle.input.specs.Names.{Enters}
use Rattle.input.proofs.names.entered.Given as goal

abbrev pub invariant-loop-line : goal.invariant-loop-line
invariant-loop-line l = Enters (map (λ x. x.now) l.yielded) (vec_items l.records)
