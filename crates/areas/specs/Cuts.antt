-- Where the bytes of a segment lie in memory that is cut into segments. Assumes nothing.
use Rattle.std.specs.Prelude.{◌≡◌, ℕ, ◌+◌, ◌≤◌, List, ◌++◌, length, take, drop, Ok, slice_index_or, slice_set}
use Rattle.store.specs.Rows.{Segment, good, bad, bytes_from, answer}

-- some memory with a segment's bytes put in from a place on
abbrev pub with_bytes : List ℕ → ℕ → List ℕ → List ℕ
with_bytes m start bytes = take start m ++ (bytes ++ drop 512 (drop start m))

-- segment i of a row is good and its bytes begin at start; others put there replace that segment, and change nothing else of the row, nor of what goes with it
pub record Placed (row : List ℕ → List Segment) (frame : List ℕ → List (List ℕ)) (m : List ℕ) (i start : ℕ) : Type 0 where
  pub inside : start + 512 ≤ length m
  pub holds : slice_index_or (row m) i bad ≡ good (bytes_from m start)
  pub written : (bytes : List ℕ) → length bytes ≡ 512 → row (with_bytes m start bytes) ≡ slice_set (row m) i (good bytes)
  pub framed : (bytes : List ℕ) → length bytes ≡ 512 → frame (with_bytes m start bytes) ≡ frame m

-- there is such a segment, and a buffer of some size may be used on it
pub record Usable (row : List ℕ → List Segment) (frame : List ℕ → List (List ℕ)) (m : List ℕ) (i size start : ℕ) : Type 0 where
  pub fit : size ≡ 512
  pub allowed : answer (row m) i size ≡ Ok tt
  pub placed : Placed row frame m i start
