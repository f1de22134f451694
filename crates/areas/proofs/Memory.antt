-- Writing a part of memory, and what it leaves. Assumes nothing.
use Rattle.std.proofs.Common.{◌≡◌, ℕ, ◌+◌, ◌-◌, ◌<◌, ◌≤◌, ◌⊎◌, List, length, get_or, take, drop, sym, ap, ◌∙◌, inl, inr, arith}
use borrow.Rule.Slice.PartMut.{put_mid}
use Rattle.std.specs.List.{between}
use Rattle.std.proofs.lemmas.Grind.{common_steps}
use Rattle.std.proofs.lemmas.Slice.{between_is, take-put_mid_below, drop-put_mid}
use Rattle.store.specs.Rows.{Segment, goods, bytes_from}
use Rattle.store.proofs.Answering.{goods-set, allowed_means}
use Rattle.areas.specs.Cuts.{with_bytes, Usable}

-- a write to a part keeps the length
pub length-put_mid : (a k : ℕ) (xs ys : List ℕ) → a + k ≤ length xs → length ys ≡ k → length (put_mid a k xs ys) ≡ length xs
length-put_mid a k xs ys h l = grind (arith, common_steps)

-- and what lies before the part and behind it
pub get_or-put_mid_below : (a k j d : ℕ) (xs ys : List ℕ) → a + k ≤ length xs → length ys ≡ k → j < a → get_or (put_mid a k xs ys) j d ≡ get_or xs j d
get_or-put_mid_below a k j d xs ys h l w = grind (arith, common_steps)

pub get_or-put_mid_above : (a k j d : ℕ) (xs ys : List ℕ) → a + k ≤ length xs → length ys ≡ k → a + k ≤ j → get_or (put_mid a k xs ys) j d ≡ get_or xs j d
get_or-put_mid_above a k j d xs ys h l w = grind (arith, common_steps)

-- a part that lies apart from the written one is as it was
pub apart : (a k b n : ℕ) (xs ys : List ℕ) → a + k ≤ length xs → length ys ≡ k → (a + k ≤ b) ⊎ (b + n ≤ a)
    → between b (b + n) (put_mid a k xs ys) ≡ between b (b + n) xs
apart a k b n xs ys h l (inl w) = ap (take (b + n - b)) (drop-put_mid a k xs ys b w (omega arith) l)
apart a k b n xs ys h l (inr w) = between_is _ b (b + n) ∙ ap (drop b) (take-put_mid_below a k xs ys (b + n) w (omega arith)) ∙ sym (between_is xs b (b + n))

-- and the written one holds what was written
pub written_here : (a : ℕ) (xs ys : List ℕ) → a + 512 ≤ length xs → length ys ≡ 512 → bytes_from (put_mid a 512 xs ys) a ≡ ys
written_here a xs ys h l = grind (arith, common_steps)

-- a segment written where it lies leaves which segments are good
pub marks_written : (row : List ℕ → List Segment) (frame : List ℕ → List (List ℕ)) (m m' : List ℕ) (i size start : ℕ) (bytes : List ℕ) → Usable row frame m i size start → length bytes ≡ 512
    → m' ≡ with_bytes m start bytes → goods (row m') ≡ goods (row m)
marks_written row frame m m' i size start bytes u long is =
    ap (λ x. goods (row x)) is ∙ ap goods (u.placed.written bytes long) ∙ goods-set (row m) i bytes (allowed_means (row m) i size u.allowed).holds
