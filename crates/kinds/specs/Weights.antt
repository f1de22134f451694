-- The bytes of a field as the code compares them. Assumes nothing.
use Rattle.std.specs.Prelude.{ℕ, ◌+◌, ◌%◌, Bool, if◌then◌else◌, ◌&&◌, List, ◌==◌, slice_index}

-- byte i of a field; where the field is signed, the first has its sign bit flipped
abbrev pub weighed : Bool → List ℕ → ℕ → ℕ
weighed signed k i = if signed && i == 0 then (slice_index k i + 128) % 256 else slice_index k i
