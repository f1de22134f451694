-- Several segments, one behind another. Assumes nothing.
use Rattle.std.specs.Prelude.{◌≡◌, ℕ, zero, suc, ◌+◌, ◌*◌, ◌/◌, ◌%◌, ◌≤◌, ◌⊎◌, List, [], ◌∷◌, ◌++◌, length, Ok, ◌==◌, slice_index_or, slice_set}
use Rattle.store.specs.declared.faults.Refusal.TheVariants.{WrongBuffer}
use Rattle.store.specs.Faults.{Answer, asks, first_no, only_if, and_then}
use Rattle.store.specs.Rows.{Segment, good, bad, bytes_of, goods, answer, bytes_from}

-- the bytes of n segments from the first on
abbrev pub span : List Segment → ℕ → ℕ → List ℕ
span row first zero = []
span row first (suc n) = span row first n ++ bytes_of (slice_index_or row (first + n) bad)

-- whether n segments from the first on are there and good: the lowest that is not decides
abbrev pub probe : List Segment → ℕ → ℕ → Answer
probe row first zero = Ok tt
probe row first (suc n) = and_then (probe row first n) (answer row (first + n) 512)

-- the answer to a span that is read or written with a buffer of some size
abbrev pub span_answer : List Segment → ℕ → ℕ → Answer
span_answer row first size = and_then (first_no (asks (size % 512 == 0) WrongBuffer ∷ [])) (probe row first (size / 512))

-- a buffer of some size is n segments, and as many are there and good from the first on
pub record IsProbed (row : List Segment) (first size n : ℕ) : Type 0 where
  pub whole : size ≡ n * 512
  pub there : probe row first n ≡ Ok tt

-- the buffer after a span is read
abbrev pub read_span_after : List Segment → ℕ → List ℕ → List ℕ
read_span_after row first buffer = only_if (span_answer row first (length buffer)) (span row first (length buffer / 512)) buffer

-- the row with n segments of some bytes put in from the first on
abbrev pub put : List Segment → ℕ → ℕ → List ℕ → List Segment
put row first zero bytes = row
put row first (suc n) bytes = slice_set (put row first n bytes) (first + n) (good (bytes_from bytes (n * 512)))

-- the row after a span is written
abbrev pub write_span_after : List Segment → ℕ → List ℕ → List Segment
write_span_after row first buffer = only_if (span_answer row first (length buffer)) (put row first (length buffer / 512) buffer) row

-- what was written stands there, every span that does not overlap it is as it was, and so is which segments are good
pub record Wrote (row after : List Segment) (first n : ℕ) (bytes : List ℕ) : Type 0 where
  pub holds : span after first n ≡ bytes
  pub apart : (at m : ℕ) → (at + m ≤ first) ⊎ (first + n ≤ at) → span after at m ≡ span row at m
  pub marks : goods after ≡ goods row

-- the answer to a span that is copied from one row to the same place of another, and the other row then
abbrev pub copy_answer : List Segment → List Segment → ℕ → ℕ → Answer
copy_answer from to first n = and_then (probe from first n) (probe to first n)

abbrev pub copy_after : List Segment → List Segment → ℕ → ℕ → List Segment
copy_after from to first n = only_if (copy_answer from to first n) (put to first n (span from first n)) to
