-- What a row answers, and what a write leaves of it. Assumes nothing.
use Rattle.std.proofs.Common.{◌≡◌, ℕ, ◌<◌, true, false, List, length, get_or, set, Ok, sym, ap, ◌∙◌, arith}
use Rattle.std.proofs.Math.ListN.{get_or-map}
use Rattle.std.proofs.Math.Seq.{map-set_same}
use Rattle.std.proofs.lemmas.List.{length-map}
use Rattle.store.specs.Faults.{Answer, only_if}
use Rattle.store.specs.Rows.{Segment, good, bad, is_good, goods, answer, write_after}

-- a good segment that is there is read and written (for whoever has one; the calls need the other way only)
pub allowed : (row : List Segment) (i size : ℕ) (bytes : List ℕ) → size ≡ 512 → i < length row → get_or row i bad ≡ good bytes → answer row i size ≡ Ok tt
allowed row i size bytes fit there holds = grind arith

-- and what is read or written is such a segment
pub record Allowed (row : List Segment) (i size : ℕ) : Type 0 where
  pub fit : size ≡ 512
  pub there : i < length row
  pub holds : is_good (get_or row i bad) ≡ true

pub allowed_means : (row : List Segment) (i size : ℕ) → answer row i size ≡ Ok tt → Allowed row i size
allowed_means row i size done = grind arith

-- a good segment, written, leaves which segments are good
pub goods-set : (row : List Segment) (i : ℕ) (bytes : List ℕ) → is_good (get_or row i bad) ≡ true → goods (set row i (good bytes)) ≡ goods row
goods-set row i bytes holds = map-set_same is_good row i (good bytes) bad (sym holds)

-- what is answered depends on which segments are good alone
pub answer-goods : (row row' : List Segment) (i size : ℕ) → goods row' ≡ goods row → answer row' i size ≡ answer row i size
answer-goods row row' i size same =
    let l : length row' ≡ length row = sym (length-map row' is_good) ∙ ap length same ∙ length-map row is_good in
    let h : is_good (get_or row' i bad) ≡ is_good (get_or row i bad) = sym (get_or-map is_good row' i bad) ∙ ap (λ bs. get_or bs i false) same ∙ get_or-map is_good row i bad in
    cc

goods_if : (row : List Segment) (i : ℕ) (bytes : List ℕ) (a : Answer) → (a ≡ Ok tt → goods (set row i (good bytes)) ≡ goods row)
    → goods (only_if a (set row i (good bytes)) row) ≡ goods row
goods_if row i bytes a where_done = grind arith

pub goods_kept : (row : List Segment) (i : ℕ) (buffer : List ℕ) → goods (write_after row i buffer) ≡ goods row
goods_kept row i buffer = goods_if row i buffer (answer row i (length buffer)) (λ done. goods-set row i buffer (allowed_means row i (length buffer) done).holds)
