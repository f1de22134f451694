-- What a store means: a row of segments, and what reading and writing one of them does. Assumes nothing.
use Rattle.std.specs.Prelude.{◌≡◌, ℕ, ◌+◌, ◌^◌, ◌<◌, Bool, true, false, List, [], ◌∷◌, map, length, ◌==◌, nat_lt, slice_index_or, slice_set}
use Rattle.std.specs.Borrow.{GName}
use Rattle.std.specs.List.{between}
use Rattle.store.specs.declared.faults.Refusal.TheVariants.{WrongBuffer, NoSegment, BadSegment}
use Rattle.store.specs.Faults.{Answer, asks, first_no, only_if}

-- a segment is good and holds bytes, or it is bad
pub data Segment : Type 0 where
  good : List ℕ → Segment
  bad : Segment

abbrev pub is_good : Segment → Bool
is_good (good bytes) = true
is_good bad = false

abbrev pub bytes_of : Segment → List ℕ
bytes_of (good bytes) = bytes
bytes_of bad = []

-- the 512 bytes of some memory from a place on
abbrev pub bytes_from : List ℕ → ℕ → List ℕ
bytes_from memory start = between start (start + 512) memory

-- which segments of a row are good
abbrev pub goods : List Segment → List Bool
goods row = map is_good row

-- what holds of the row of every store
pub record Proper (row : List Segment) : Type 0 where
  pub some : 0 < length row
  pub counted : length row < 2 ^ 64
  pub full : (i : ℕ) (bytes : List ℕ) → slice_index_or row i bad ≡ good bytes → length bytes ≡ 512

-- what of a store no call changes: the names of the memory that is lent to it, which its lender has again when the store
-- is let go, and what it holds beside its row
pub record Fixed : Type 0 where
  pub lent : List GName
  pub frame : List (List ℕ)

-- the answer to a read or a write of segment i with a buffer of some size
abbrev pub answer : List Segment → ℕ → ℕ → Answer
answer row i size =
    first_no (asks (size == 512) WrongBuffer ∷ asks (nat_lt i (length row)) (NoSegment i) ∷ asks (is_good (slice_index_or row i bad)) (BadSegment i) ∷ [])

-- the buffer after a read
abbrev pub read_after : List Segment → ℕ → List ℕ → List ℕ
read_after row i buffer = only_if (answer row i (length buffer)) (bytes_of (slice_index_or row i bad)) buffer

-- the row after a write
abbrev pub write_after : List Segment → ℕ → List ℕ → List Segment
write_after row i buffer = only_if (answer row i (length buffer)) (slice_set row i (good buffer)) row
