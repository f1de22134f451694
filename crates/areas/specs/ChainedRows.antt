-- Segments that lie in the pages of a pool, chained by page numbers. Assumes nothing.
-- Pages are numbered from 1. A page is 516 bytes: the next page's number, high byte first, a mark, a zero byte, a segment.
use Rattle.std.specs.Prelude.{◌≡◌, ℕ, zero, suc, ◌+◌, ◌-◌, ◌*◌, ◌/◌, Bool, true, false, cond, not, ◌&&◌, ◌||◌, List, [], ◌∷◌, map, length, is_some, Some, None, Ok, Option, ◌==◌, ◌≢◌, nat_le, nat_lt, slice_index}
use Rattle.std.specs.List.{range_with_len, between}
use Rattle.std.specs.Option.{option_map, option_map_or, unwrap_or}
use Rattle.store.specs.declared.faults.Refusal.TheVariants.{UnfitMemory, BrokenChain}
use Rattle.store.specs.Faults.{Answer, asks, first_no}
use Rattle.store.specs.Rows.{Segment, good, bad, bytes_from}
use Rattle.areas.specs.PlainRows.{whole}

-- where page p begins
abbrev pub base_of : ℕ → ℕ
base_of p = (p - 1) * 516

-- the page after page p, and 0 after the last
abbrev pub next_of : List ℕ → ℕ → ℕ
next_of m p = slice_index m (base_of p) * 256 + slice_index m (base_of p + 1)

-- page p's mark: 0 good, 1 bad
abbrev pub mark_of : List ℕ → ℕ → ℕ
mark_of m p = slice_index m (base_of p + 2)

-- page p is one of n
abbrev pub in_pool : ℕ → ℕ → Bool
in_pool n p = nat_lt 0 p && nat_le p n

-- page p is in the pool, is marked good or bad, and has a zero byte after the mark
abbrev pub page_ok : List ℕ → ℕ → Bool
page_ok m p = in_pool (length m / 516) p && nat_le (mark_of m p) 1 && slice_index m (base_of p + 3) == 0

-- the step from a page of a chain to the next
abbrev pub step_from : List ℕ → ℕ → Option ℕ
step_from m p = cond (page_ok m p) (Some (next_of m p)) None

-- the chain from page p on is ps: each page is as it should be and names the one after it, the last names 0
pub data Ends (m : List ℕ) : ℕ → List ℕ → Type 0 where
  last : {p : ℕ} → page_ok m p ≡ true → next_of m p ≡ 0 → Ends m p (p ∷ [])
  more : {p : ℕ} {ps : List ℕ} → page_ok m p ≡ true → (next_of m p ≢ 0) → Ends m (next_of m p) ps → Ends m p (p ∷ ps)

-- the pages from p on, if the chain ends within a number of pages
abbrev pub walk : List ℕ → ℕ → ℕ → Option (List ℕ)
walk m zero p = None
walk m (suc n) p = cond (page_ok m p) (cond (next_of m p == 0) (Some (p ∷ [])) (option_map (λ ps. p ∷ ps) (walk m n (next_of m p)))) None

-- what a walk from a page on meets, within a number of pages: each page, and None in place of one at which the chain breaks; from 0 on, nothing
abbrev pub pages_met : List ℕ → ℕ → ℕ → List (Option ℕ)
pages_met m zero p = cond (p == 0) [] (None ∷ [])
pages_met m (suc n) p = cond (p == 0) [] (option_map_or (λ q. Some p ∷ pages_met m n q) (step_from m p) (None ∷ []))

-- the answer of the call that looks
abbrev pub chain_look : List ℕ → ℕ → Answer
chain_look m first = first_no (asks (whole 516 (length m)) UnfitMemory ∷ asks (is_some (walk m (length m / 516) first)) BrokenChain ∷ [])

-- the pages of a chain, and none where it is refused
abbrev pub pages_from : List ℕ → ℕ → List ℕ
pages_from m first = cond (whole 516 (length m)) (unwrap_or (walk m (length m / 516) first) []) []

abbrev pub page_segment : List ℕ → ℕ → Segment
page_segment m p = cond (mark_of m p == 0) (good (bytes_from m (base_of p + 4))) bad

-- the row of some pages, in one bad segment where there are none
abbrev pub row_of : List ℕ → List ℕ → List Segment
row_of m [] = bad ∷ []
row_of m (p ∷ ps) = page_segment m p ∷ map (page_segment m) ps

-- the row of the chain from a first page on
abbrev pub chain_row : List ℕ → ℕ → List Segment
chain_row m first = row_of m (pages_from m first)

abbrev pub has : ℕ → List ℕ → Bool
has p [] = false
has p (x ∷ xs) = p == x || has p xs

-- each page is one of n, and none stands twice
abbrev pub once : ℕ → List ℕ → Bool
once n [] = true
once n (p ∷ ps) = (in_pool n p && not (has p ps)) && once n ps

-- what an index of pages keeps: no more pages than an area may have, each of the pool, none twice
abbrev pub indexed : ℕ → List ℕ → Bool
indexed size ps = nat_le (length ps) 65535 && once (size / 516) ps

-- the pages from page on are those listed, and the last names 0
abbrev pub leads_through : List ℕ → ℕ → List ℕ → Bool
leads_through m page [] = page == 0
leads_through m page (p ∷ ps) = (p == page && page_ok m page) && leads_through m (next_of m page) ps

-- an index of a first page and the pages behind it is that of a pool
abbrev pub fits_pool : List ℕ → ℕ → ℕ → List ℕ → Bool
fits_pool m size first pages = (size == length m && whole 516 (length m)) && leads_through m first pages

-- the pages that an area uses: those of its index, where that was found to be the chain of this pool
abbrev pub used_pages : Bool → ℕ → ℕ → List ℕ → List ℕ
used_pages fits size n pages = cond (fits && size == n) pages []

-- how much of page k + 1 no call changes: its four leading bytes where it is good and on the chain, else all of it
abbrev pub kept_length : List ℕ → List ℕ → ℕ → ℕ
kept_length m ps k = cond (has (k + 1) ps && mark_of m (k + 1) == 0) 4 516

abbrev pub kept_of : List ℕ → List ℕ → ℕ → List ℕ
kept_of m ps k = between (k * 516) (k * 516 + kept_length m ps k) m

abbrev pub kept_pages : List ℕ → List ℕ → List (List ℕ)
kept_pages m ps = map (kept_of m ps) (range_with_len 0 (length m / 516))

-- what of the memory no call changes: that much of each page, and the bytes past the last whole page
abbrev pub chain_kept : List ℕ → List ℕ → List (List ℕ)
chain_kept m ps = between (length m / 516 * 516) (length m) m ∷ kept_pages m ps

-- the looking call accepts exactly the first pages from which a chain ends, which then meets each of its pages once
pub record Looked (m : List ℕ) (first : ℕ) (r : Answer) : Type 0 where
  pub accepts : (ps : List ℕ) → whole 516 (length m) ≡ true → Ends m first ps → (r ≡ Ok tt) × (pages_from m first ≡ ps)
  pub only : r ≡ Ok tt → (ps : List ℕ) × (Ends m first ps × (pages_from m first ≡ ps) × (once (length m / 516) ps ≡ true))
