-- What every store owes of its row, shown of each cut. Assumes nothing.
use Rattle.std.specs.Prelude.{◌≡◌, ℕ, zero, suc, ◌+◌, ◌/◌, ◌%◌, ◌<◌, ◌≤◌, true, List, [], ◌∷◌, length, max, ◌≢◌, slice_index, slice_index_or}
use Rattle.std.proofs.Common.{refl, sym, ◌∙◌, ⊎_elim, arith}
use Rattle.std.proofs.lemmas.Grind.{common_steps}
use Rattle.std.proofs.lemmas.Bool.Decides.{nat_tests}
use Rattle.std.proofs.lemmas.Bool.{cases_lt}
use Rattle.std.proofs.lemmas.List.{get_or_past}
use Rattle.std.proofs.lemmas.List.FromFn.{length-map-range_with_len, get_or-map-range_with_len}
use Rattle.store.specs.Rows.{Segment, good, bad, Proper, bytes_from}
use Rattle.areas.specs.PlainRows.{whole, parts, plain_row}
use Rattle.areas.specs.ChainedRows.{base_of, in_pool, once, indexed, page_segment, row_of}

-- what `whole` tells
pub record Whole (size n : ℕ) : Type 0 where
  pub some : 0 < n
  pub parts : n % size ≡ 0
  pub few : n / size ≤ 65535

pub whole_means : (size n : ℕ) → whole size n ≡ true → Whole size n
whole_means size n h = record {
  some = grind (arith, nat_tests);
  parts = grind (arith, nat_tests);
  few = grind (arith, nat_tests);
}

pub length-bytes_from : (m : List ℕ) (a : ℕ) → a + 512 ≤ length m → length (bytes_from m a) ≡ 512
length-bytes_from m a inside = grind (arith, common_steps)

bad_not_good : (bytes : List ℕ) → bad ≢ good bytes
bad_not_good bytes e = cc

-- a row of segments that are each bad or hold 512 bytes
pub proper_from : (row : List Segment) → 0 < length row → length row ≤ 65535
    → ((i : ℕ) (bytes : List ℕ) → i < length row → slice_index_or row i bad ≡ good bytes → length bytes ≡ 512) → Proper row
proper_from row some few full = record {
  some = some;
  counted = omega arith;
  full = λ i bytes e. ⊎_elim (λ (l : i < length row). full i bytes l e) (λ (l : length row ≤ i). let past = get_or_past row i bad l in cc) (cases_lt i (length row));
}

pub one_bad : Proper (bad ∷ [])
one_bad = proper_from (bad ∷ []) (omega arith) (omega arith) (λ i bytes l e. let z : i ≡ 0 = omega arith in let past : slice_index_or (bad ∷ []) i bad ≡ bad = rw z refl in cc)

-- the segments of a row side by side
pub length-plain_row : (m : List ℕ) → length (plain_row m) ≡ max (parts 512 (length m)) 1
length-plain_row m = grind (arith, nat_tests, length-map-range_with_len)

parts_few : (size n : ℕ) → parts size n ≤ 65535
parts_few size n = grind (arith, nat_tests)

plain_full : (m : List ℕ) (i : ℕ) (bytes : List ℕ) → slice_index_or (plain_row m) i bad ≡ good bytes → length bytes ≡ 512
plain_full m i bytes e = grind (arith, nat_tests, common_steps, get_or-map-range_with_len, length-map-range_with_len)

pub plain_proper : (m : List ℕ) → Proper (plain_row m)
plain_proper m =
    let n = length-plain_row m in
    let few = parts_few 512 (length m) in
    record { some = omega arith; counted = omega arith; full = plain_full m }

-- what `in_pool` and `once` tell
pub pool_some : (n p : ℕ) → in_pool n p ≡ true → 0 < p
pool_some n p h = grind (arith, nat_tests)

pub pool_most : (n p : ℕ) → in_pool n p ≡ true → p ≤ n
pool_most n p h = grind (arith, nat_tests)

pub page_within : (m : List ℕ) (p : ℕ) → in_pool (length m / 516) p ≡ true → base_of p + 516 ≤ length m
page_within m p h = grind (arith, nat_tests)

pub once_in : (n : ℕ) (ps : List ℕ) (i : ℕ) → once n ps ≡ true → i < length ps → in_pool n (slice_index ps i) ≡ true
once_in n [] i h l = absurd (omega arith)
once_in n (p ∷ ps) zero h l = grind (arith, nat_tests)
once_in n (p ∷ ps) (suc i) h l = grind (arith, nat_tests, once_in n ps i)

-- the segments of a row of pages
pub length-row_of : (m ps : List ℕ) → length (row_of m ps) ≡ max (length ps) 1
length-row_of m [] = refl
length-row_of m (p ∷ ps) = grind (arith, common_steps)

pub row_at : (m ps : List ℕ) (i : ℕ) (d : Segment) → i < length ps → slice_index_or (row_of m ps) i d ≡ page_segment m (slice_index ps i)
row_at m [] i d l = absurd (omega arith)
row_at m (p ∷ ps) i d l = grind (arith, common_steps)

pub row_none : (m ps : List ℕ) (i : ℕ) → length ps ≤ i → slice_index_or (row_of m ps) i bad ≡ bad
row_none m [] i l = grind (arith, common_steps)
row_none m (p ∷ ps) i l = grind (arith, common_steps)

page_full : (m : List ℕ) (p : ℕ) (bytes : List ℕ) → in_pool (length m / 516) p ≡ true → page_segment m p ≡ good bytes → length bytes ≡ 512
page_full m p bytes h e = grind (arith, nat_tests, common_steps)

row_full : (m ps : List ℕ) (i : ℕ) (bytes : List ℕ) → once (length m / 516) ps ≡ true → slice_index_or (row_of m ps) i bad ≡ good bytes → length bytes ≡ 512
row_full m ps i bytes h e =
    ⊎_elim
    (λ (l : i < length ps). page_full m (slice_index ps i) bytes (once_in (length m / 516) ps i h l) (sym (row_at m ps i bad l) ∙ e))
    (λ (l : length ps ≤ i). let n = row_none m ps i l in cc)
    (cases_lt i (length ps))

pub chain_proper : (m ps : List ℕ) → indexed (length m) ps ≡ true → Proper (row_of m ps)
chain_proper m ps h =
    let few : length ps ≤ 65535 = grind (arith, nat_tests) in
    let all : once (length m / 516) ps ≡ true = grind (arith, nat_tests) in
    record {
      some = omega (arith, length-row_of m ps);
      counted = omega (arith, length-row_of m ps);
      full = λ i bytes e. row_full m ps i bytes all e;
    }
