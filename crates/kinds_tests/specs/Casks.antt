-- A kind with the longest records and keys that there may be. Assumes nothing.
use Rattle.std.specs.Prelude.{true, false, List, [], ◌∷◌}
use Rattle.kinds.specs.declared.fields.Field.{Field}
use Rattle.kinds.specs.Kinds.{field, of_fields}
use Rattle.kinds.specs.Laws.{Kind}

-- the number that is burnt into the cask, then the day of filling, the latest first
abbrev pub cask_fields : List Field
cask_fields = field 12 false false ∷ field 4 true true ∷ []

abbrev pub cask_kind : Kind
cask_kind = of_fields 9 254 cask_fields
