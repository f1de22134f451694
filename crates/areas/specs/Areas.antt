-- The row and the frame of a chained area. Assumes nothing.
use Rattle.std.specs.Prelude.{◌≡◌, ℕ, Bool, true, List, [], ◌∷◌, length, if◌then◌else◌, vec_items}
use Rattle.areas.specs.declared.chained.InPages.{InPages}
use Rattle.areas.specs.declared.index.Chain.{Chain}
use Rattle.store.specs.Rows.{Segment, bad, Proper}
use Rattle.areas.specs.ChainedRows.{pages_from, chain_row, fits_pool, indexed, row_of, chain_kept}
use Rattle.areas.specs.Laws.{chain_proper}

-- the index lists the pages of the pool's chain from its first page on
abbrev pub Lists : Chain → List ℕ → Type 0
Lists ch m = (ch.size ≡ length m) × (pages_from m ch.first ≡ vec_items ch.pages)

-- what an area made over a pool with an index stands for: the row of the pool's chain where the index lists it, else one bad segment
pub record Made (ch : Chain) (m : List ℕ) (row : List Segment) : Type 0 where
  pub same : Lists ch m → row ≡ chain_row m ch.first
  pub other : (Lists ch m → ⊥) → row ≡ bad ∷ []

-- the pages that an area made over a pool with an index uses, its row, and what of the pool no call changes
abbrev pub pool_pages : List ℕ → Chain → List ℕ
pool_pages m ch = if fits_pool m ch.size ch.first (vec_items ch.pages) then vec_items ch.pages else []

abbrev pub pool_row : List ℕ → Chain → List Segment
pool_row m ch = row_of m (pool_pages m ch)

abbrev pub pool_kept : List ℕ → Chain → List (List ℕ)
pool_kept m ch = chain_kept m (pool_pages m ch)

-- a pool of some length may be cut into some pages
abbrev pub chained_suits : InPages → ℕ → Bool
chained_suits c n = indexed n c.pages.now

abbrev pub chained_row : InPages → List ℕ → List Segment
chained_row c m = row_of m c.pages.now

-- these pages, and what of the memory no call changes
abbrev pub chained_frame : InPages → List ℕ → List (List ℕ)
chained_frame c m = c.pages.now ∷ chain_kept m c.pages.now

pub chained_proper : (c : InPages) (m : List ℕ) → chained_suits c (length m) ≡ true → Proper (chained_row c m)
chained_proper c m h = chain_proper m c.pages.now h
