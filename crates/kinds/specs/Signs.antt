-- The order of signed numbers is that of their bytes, the first with its sign bit flipped. Assumes nothing.
use Rattle.std.specs.Prelude.{◌≡◌, ℕ, zero, suc, ◌+◌, ◌-◌, ◌*◌, ◌/◌, ◌%◌, ◌^◌, ◌<◌, Bool, true, if◌then◌else◌, List, length, ◌≤◌, ℤ, pos, negsuc, nat_lt, slice_index, slice_index_or, All, refl}
use Rattle.std.proofs.Common.{⊎_elim, sym, ap, ap₂, ◌∙◌, pow-suc, arith}
use Rattle.std.proofs.lemmas.Bool.{cases_lt}
use Rattle.std.proofs.lemmas.List.{get_or_past}
use Rattle.std.proofs.lemmas.Bool.Decides.{nat_tests}
use Rattle.kinds.specs.Fields.{unsigned_of, twos, by_signed}
use Rattle.kinds.specs.Weights.{weighed}
use Rattle.kinds.specs.Lexical.{lex, digits, lex-digits}
use Rattle.std.specs.Ordering.{nat_cmp, int_cmp}

abbrev pub Bytes : List ℕ → Type 0
Bytes k = All (λ x. x < 256) k

pub byte_lt : (k : List ℕ) → Bytes k → (i : ℕ) → slice_index k i < 256
byte_lt k h i =
    ⊎_elim
    (λ (l : i < length k). h i 0 l)
    (λ (l : length k ≤ i). rw (get_or_past k i 0 l) (omega arith))
    (cases_lt i (length k))

-- a number below 2h with its sign bit, of weight h, flipped; and as two's complement
abbrev flipped : ℕ → ℕ → ℕ
flipped h v = if nat_lt v h then v + h else v - h

abbrev complement : ℕ → ℕ → ℤ
complement h v = if nat_lt v h then pos v else negsuc (2 * h - suc v)

rank_flipped : (h v w : ℕ) → v < 2 * h → w < 2 * h → int_cmp (complement h v) (complement h w) ≡ nat_cmp (flipped h v) (flipped h w)
rank_flipped h v w p q = grind (arith, nat_tests)

-- ---- the numbers of n bytes

pub unsigned_lt : (k : List ℕ) → Bytes k → (n : ℕ) → unsigned_of n k < 256 ^ n
unsigned_lt k h zero = omega arith
unsigned_lt k h (suc n) =
    let rest : unsigned_of n k < 256 ^ n = unsigned_lt k h n in
    let b : slice_index_or k n 0 < 256 = byte_lt k h n in
    rw (pow-suc 256 n) (omega arith)

half_is : (n : ℕ) → 256 ^ suc n / 2 ≡ 128 * 256 ^ n
half_is n = rw (pow-suc 256 n) (omega arith)

two_halves : (n : ℕ) → 256 ^ suc n ≡ 2 * (128 * 256 ^ n)
two_halves n = rw (pow-suc 256 n) (omega arith)

twos_is : (n v : ℕ) → twos (suc n) v ≡ complement (128 * 256 ^ n) v
twos_is n v = ap₂ (λ h m. if nat_lt v h then pos v else negsuc (m - suc v)) (half_is n) (two_halves n)

-- ---- the weights

pub weighed_lt : (s : Bool) (k : List ℕ) → Bytes k → (i : ℕ) → weighed s k i < 256
weighed_lt s k h i = let b : slice_index_or k i 0 < 256 = byte_lt k h i in grind (arith, nat_tests)

pub weighed_pins : (s : Bool) (a b : List ℕ) → Bytes a → Bytes b → (i : ℕ) → weighed s a i ≡ weighed s b i → slice_index a i ≡ slice_index b i
weighed_pins s a b ha hb i e =
    let x : slice_index_or a i 0 < 256 = byte_lt a ha i in
    let y : slice_index_or b i 0 < 256 = byte_lt b hb i in
    grind (arith, nat_tests)

flipped_first : (x : ℕ) → x < 256 → 0 * 256 + (x + 128) % 256 ≡ flipped 128 (0 * 256 + x)
flipped_first x h = grind (arith, nat_tests)

flipped_more : (h v x : ℕ) → x < 256 → flipped h v * 256 + x ≡ flipped (h * 256) (v * 256 + x)
flipped_more h v x p = grind (arith, nat_tests)

weighed_later : (s : Bool) (k : List ℕ) (i : ℕ) → weighed s k (suc i) ≡ slice_index k (suc i)
weighed_later s k i = grind (arith, nat_tests)

flips : (k : List ℕ) → Bytes k → (n : ℕ) → digits (weighed true k) (suc n) ≡ flipped (128 * 256 ^ n) (unsigned_of (suc n) k)
flips k h zero = flipped_first (slice_index k 0) (byte_lt k h 0)
flips k h (suc n) =
    let p : 128 * 256 ^ n * 256 ≡ 128 * 256 ^ suc n = rw (pow-suc 256 n) (omega arith) in
    ap₂ (λ d w. d * 256 + w) (flips k h n) (weighed_later true k n)
    ∙ flipped_more (128 * 256 ^ n) (unsigned_of (suc n) k) (slice_index k (suc n)) (byte_lt k h (suc n))
    ∙ ap (λ m. flipped m (unsigned_of (suc (suc n)) k)) p

-- the order of two's complement values is that of the bytes, the first with its sign bit flipped
pub signed_lex : (a b : List ℕ) → Bytes a → Bytes b → (n : ℕ) → by_signed n a b ≡ lex (weighed true a) (weighed true b) n
signed_lex a b ha hb zero = refl
signed_lex a b ha hb (suc n) =
    let h = 128 * 256 ^ n in
    let x : unsigned_of (suc n) a < 2 * h = rw (sym (two_halves n)) (unsigned_lt a ha (suc n)) in
    let y : unsigned_of (suc n) b < 2 * h = rw (sym (two_halves n)) (unsigned_lt b hb (suc n)) in
    ap₂ int_cmp (twos_is n (unsigned_of (suc n) a)) (twos_is n (unsigned_of (suc n) b))
    ∙ rank_flipped h (unsigned_of (suc n) a) (unsigned_of (suc n) b) x y
    ∙ sym (ap₂ nat_cmp (flips a ha n) (flips b hb n))
    ∙ lex-digits (weighed true a) (weighed true b) (weighed_lt true a ha) (weighed_lt true b hb) (suc n)
