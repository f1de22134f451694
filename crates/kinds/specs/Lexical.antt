-- Rows of bytes, as functions of the place: their order by the first that differs, which is that of the numbers that
-- they are. Assumes nothing.
use Rattle.std.specs.Prelude.{◌≡◌, ℕ, zero, suc, ◌+◌, ◌*◌, ◌<◌, ◌≤◌, true, false, List, [], ◌∷◌, ◌++◌, length, map, slice_index, refl}
use Rattle.std.specs.declared.cmp.Ordering.TheVariants.{Less, Equal, Greater}
use Rattle.std.specs.declared.cmp.Ordering.{Ordering}
use Rattle.std.proofs.Common.{⊎_elim, sym, ap, ap₂, subst, ◌∙◌, add-one, arith}
use Rattle.std.proofs.lemmas.Bool.{cases_lt}
use Rattle.std.proofs.lemmas.Bool.Decides.{nat_tests}
use Rattle.std.proofs.lemmas.List.FromFn.{length-map-range_with_len, map-range_with_len_more}
use Rattle.std.specs.Cmp.{IsTotalOrder, nat_cmp_total, on_total, then_total, nat_cmp_is, ranked}
use Rattle.std.specs.Cmp.Lexicographic.{slice_cmp}
use Rattle.std.specs.List.{range_with_len, find}
use Rattle.std.specs.Option.{unwrap_or}
use Rattle.std.specs.Ordering.{is_ne, ordering_reverse, ordering_then, nat_cmp}
use Rattle.kinds.specs.Fields.{by_bytes}

-- by the first n: the first that differs decides
abbrev pub lex : (ℕ → ℕ) → (ℕ → ℕ) → ℕ → Ordering
lex u v zero = Equal
lex u v (suc n) = ordering_then (lex u v n) (nat_cmp (u n) (v n))

-- the first n as a number
abbrev pub digits : (ℕ → ℕ) → ℕ → ℕ
digits u zero = 0
digits u (suc n) = digits u n * 256 + u n

pub bytes_lex : (a b : List ℕ) (n : ℕ) → by_bytes n a b ≡ lex (λ i. slice_index a i) (λ i. slice_index b i) n
bytes_lex a b zero = refl
bytes_lex a b (suc n) = ap (λ o. ordering_then o (nat_cmp (slice_index a n) (slice_index b n))) (bytes_lex a b n)

rank_more : (x y u v : ℕ) → u < 256 → v < 256 → nat_cmp (x * 256 + u) (y * 256 + v) ≡ ordering_then (nat_cmp x y) (nat_cmp u v)
rank_more x y u v p q = grind (arith, nat_tests)

pub lex-digits : (u v : ℕ → ℕ) → ((i : ℕ) → u i < 256) → ((i : ℕ) → v i < 256) → (n : ℕ) → nat_cmp (digits u n) (digits v n) ≡ lex u v n
lex-digits u v p q zero = refl
lex-digits u v p q (suc n) = rank_more (digits u n) (digits v n) (u n) (v n) (p n) (q n) ∙ ap (λ o. ordering_then o (nat_cmp (u n) (v n))) (lex-digits u v p q n)

-- ---- the rows as lists (for whoever compares them whole)

then_step : (o p q : Ordering) → ordering_then o (ordering_then p q) ≡ ordering_then (ordering_then o p) q
then_step Less p q = refl
then_step Equal p q = refl
then_step Greater p q = refl

then_equal : (o : Ordering) → ordering_then o Equal ≡ o
then_equal Less = refl
then_equal Equal = refl
then_equal Greater = refl

cmp_more : (x y : ℕ) (xs ys : List ℕ) → length xs ≡ length ys → slice_cmp nat_cmp (xs ++ x ∷ []) (ys ++ y ∷ []) ≡ ordering_then (slice_cmp nat_cmp xs ys) (nat_cmp x y)
cmp_more x y [] [] l = then_equal (nat_cmp x y)
cmp_more x y [] (b ∷ ys) l = absurd (omega arith)
cmp_more x y (a ∷ xs) [] l = absurd (omega arith)
cmp_more x y (a ∷ xs) (b ∷ ys) l =
    ap (ordering_then (nat_cmp a b)) (cmp_more x y xs ys (omega arith)) ∙ then_step (nat_cmp a b) (slice_cmp nat_cmp xs ys) (nat_cmp x y)

-- the first n of a row
abbrev pub row : (ℕ → ℕ) → ℕ → List ℕ
row u n = map u (range_with_len 0 n)

pub rows_lex : (u v : ℕ → ℕ) (n : ℕ) → slice_cmp nat_cmp (row u n) (row v n) ≡ lex u v n
rows_lex u v zero = refl
rows_lex u v (suc n) =
    let l : length (row u n) ≡ length (row v n) = length-map-range_with_len u 0 n ∙ sym (length-map-range_with_len v 0 n) in
    ap₂ (slice_cmp nat_cmp) (more u n) (more v n)
    ∙ cmp_more (u n) (v n) (row u n) (row v n) l
    ∙ ap (λ o. ordering_then o (nat_cmp (u n) (v n))) (rows_lex u v n)
  where
    more : (w : ℕ → ℕ) (n : ℕ) → row w (suc n) ≡ row w n ++ w n ∷ []
    more w n = ap (row w) (sym (add-one n)) ∙ map-range_with_len_more w 0 n n (omega arith)

-- ---- the place that decides (for whoever compares step by step)

pub lex_more : (u v : ℕ → ℕ) (i : ℕ) → lex u v i ≡ Equal → nat_cmp (u i) (v i) ≡ Equal → lex u v (i + 1) ≡ Equal
lex_more u v i before here = rw add-one (ap₂ ordering_then before here)

pub settled : (o p : Ordering) → is_ne o ≡ true → ordering_then o p ≡ o
settled o p differs = grind arith

pub open_still : (o : Ordering) → is_ne o ≡ false → o ≡ Equal
open_still o same = grind arith

pub lex_decided : (u v : ℕ → ℕ) (i n : ℕ) (o : Ordering) → lex u v i ≡ Equal → i < n → nat_cmp (u i) (v i) ≡ o → is_ne o ≡ true → lex u v n ≡ o
lex_decided u v i zero o before l here differs = absurd (omega arith)
lex_decided u v i (suc n) o before l here differs =
    ⊎_elim
    (λ (k : i < n). ap (λ p. ordering_then p (nat_cmp (u n) (v n))) (lex_decided u v i n o before k here differs) ∙ settled o (nat_cmp (u n) (v n)) differs)
    (λ (k : n ≤ i). let z : i ≡ n = omega arith in subst (λ m. lex u v (suc m) ≡ o) z (ap₂ ordering_then before here))
    (cases_lt i n)

-- ---- the first answer that decides, as the code finds it

-- the first that is no Equal, or else Equal
abbrev pub first_ne : List Ordering → Ordering
first_ne os = unwrap_or (find is_ne os) Equal

first_ne_more : (os : List Ordering) (o : Ordering) → first_ne (os ++ o ∷ []) ≡ ordering_then (first_ne os) o
first_ne_more [] Less = refl
first_ne_more [] Equal = refl
first_ne_more [] Greater = refl
first_ne_more (Less ∷ os) o = refl
first_ne_more (Equal ∷ os) o = first_ne_more os o
first_ne_more (Greater ∷ os) o = refl

pub first_ne_lex : (u v : ℕ → ℕ) (n : ℕ) → first_ne (map (λ i. nat_cmp (u i) (v i)) (range_with_len 0 n)) ≡ lex u v n
first_ne_lex u v zero = refl
first_ne_lex u v (suc n) =
    let f : ℕ → Ordering = λ i. nat_cmp (u i) (v i) in
    ap first_ne (ap (λ m. map f (range_with_len 0 m)) (sym (add-one n)) ∙ map-range_with_len_more f 0 n n (omega arith))
    ∙ first_ne_more (map f (range_with_len 0 n)) (f n)
    ∙ ap (λ o. ordering_then o (f n)) (first_ne_lex u v n)

-- ---- the laws

pub both_level : (a b : Ordering) → ordering_then a b ≡ Equal → (a ≡ Equal) × (b ≡ Equal)
both_level Less b e = cc
both_level Equal b e = (refl, e)
both_level Greater b e = cc

pub twice : (o : Ordering) → ordering_reverse (ordering_reverse o) ≡ o
twice o = grind arith

pub own_flip : (o : Ordering) → o ≡ ordering_reverse o → o ≡ Equal
own_flip o same = grind arith

pub bytes_level : (a b : List ℕ) (n : ℕ) → ((i : ℕ) → i < n → slice_index a i ≡ slice_index b i) → by_bytes n a b ≡ Equal
bytes_level a b zero h = refl
bytes_level a b (suc n) h =
    ap₂ ordering_then (bytes_level a b n (λ i l. h i (omega arith))) (sym (nat_cmp_is (slice_index a n) (slice_index b n) Equal (h n (omega arith))))

pub lex_pins : (u v : ℕ → ℕ) (n i : ℕ) → lex u v n ≡ Equal → i < n → u i ≡ v i
lex_pins u v zero i e l = absurd (omega arith)
lex_pins u v (suc n) i e l =
    let b = both_level (lex u v n) (nat_cmp (u n) (v n)) e in
    ⊎_elim
    (λ (k : i < n). lex_pins u v n i b.0 k)
    (λ (k : n ≤ i). let z : n ≡ i = omega arith in subst (λ m. u m ≡ v m) z (ranked (u n) (v n) Equal (sym b.1)))
    (cases_lt i n)

pub bytes_total : (n : ℕ) → IsTotalOrder (by_bytes n)
bytes_total zero = on_total (λ _. 0) nat_cmp_total
bytes_total (suc n) = then_total (bytes_total n) (on_total (λ k. slice_index k n) nat_cmp_total)
