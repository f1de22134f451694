-- The pool that the program lays out. Assumes nothing.
use Rattle.std.specs.Prelude.{◌≡◌, ℕ, ◌+◌, ◌-◌, ◌*◌, ◌<◌, List, length, replicate, slice_index}
use Rattle.store.specs.Rows.{bytes_from}
use Rattle.areas.specs.ChainedRows.{base_of, next_of, mark_of}

-- page p names this next page, and has this mark and this segment
pub record IsPage (pool : List ℕ) (p next mark : ℕ) (segment : List ℕ) : Type 0 where
  pub names : next_of pool p ≡ next
  pub marked : mark_of pool p ≡ mark
  pub zero : slice_index pool (base_of p + 3) ≡ 0
  pub holds : bytes_from pool (base_of p + 4) ≡ segment

-- a segment of zeros
abbrev pub zeros : List ℕ
zeros = replicate 512 0

-- pages of zeros: each names the page before it, but the first and the last name none; the first alone is bad
pub record ChainsBackwards (pool : List ℕ) (pages : ℕ) : Type 0 where
  pub long : length pool ≡ pages * 516
  pub first : 0 < pages → IsPage pool 1 0 1 zeros
  pub others : (p : ℕ) → 1 < p → p < pages → IsPage pool p (p - 1) 0 zeros
  pub last : 1 < pages → IsPage pool pages 0 0 zeros
