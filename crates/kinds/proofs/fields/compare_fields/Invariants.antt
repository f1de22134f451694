use Rattle.std.proofs.Common.{◌≡◌, drop}
use Rattle.kinds.specs.Fields.{by_fields}
use Rattle.kinds.proofs.fields.compare_fields.Given as goal

abbrev pub invariant-loop-field : goal.invariant-loop-field
invariant-loop-field l = by_fields (drop l.field-index l.fields) l.x l.y ≡ by_fields l.fields l.a l.b
