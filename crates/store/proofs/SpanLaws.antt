-- Probing, reading and writing several segments, a segment at a time. Assumes nothing.
use Rattle.std.proofs.lemmas.Grind.{common_steps}
use Rattle.std.proofs.Common.{◌≡◌, ℕ, zero, suc, ◌+◌, ◌-◌, ◌*◌, ◌^◌, ◌<◌, ◌≤◌, ◌⊎◌, List, ◌++◌, length, get_or, take, drop, set, Ok, Err, sym, refl, ap, ◌∙◌, subst, ap₂, inl, inr, ⊎_elim, add-one, arith, length-append, take-add}
use borrow.Rule.Slice.PartMut.{put_mid}
use Rattle.std.proofs.lemmas.List.{get_or-set_same, get_or-set_other, take_all}
use Rattle.std.proofs.lemmas.Slice.{take-put_mid}
use Rattle.std.proofs.lemmas.Bool.{cases_lt}
use Rattle.store.specs.declared.faults.Fault.{Fault}
use Rattle.store.specs.Faults.{Answer, and_then, only_if, named}
use Rattle.store.specs.Rows.{Segment, good, bad, bytes_of, goods, Proper, answer, read_after, write_after, bytes_from}
use Rattle.store.specs.Spans.{span, probe, span_answer, IsProbed, put, Wrote}
use Rattle.store.proofs.Answering.{allowed_means, goods-set, answer-goods}

-- the steps of a probe
pub probe_passed : (row : List Segment) (file first i size : ℕ) (a : Answer) (u : Unit {0}) → probe row first i ≡ Ok tt → size ≡ 512 → a ≡ answer row (first + i) size → Ok u ≡ named file a
    → probe row first (i + 1) ≡ Ok tt
probe_passed row file first i size a u before fit is done = grind arith

named_refused : (file : ℕ) (a : Answer) (f : Fault) → Err f ≡ named file a → (g : Fault) × (a ≡ Err g)
named_refused file a f refused = grind arith

refused_stays : (row : List Segment) (first : ℕ) (f : Fault) (m n : ℕ) → m ≤ n → probe row first m ≡ Err f → probe row first n ≡ Err f
refused_stays row first f m zero l e = let z : m ≡ 0 = omega arith in subst (λ k. probe row first k ≡ Err f) z e
refused_stays row first f m (suc n) l e =
    ⊎_elim
    (λ (k : n < m). let z : m ≡ suc n = omega arith in subst (λ k. probe row first k ≡ Err f) z e)
    (λ (k : m ≤ n). ap (λ a. and_then a (answer row (first + n) 512)) (refused_stays row first f m n k e))
    (cases_lt n m)

pub probe_refused : (row : List Segment) (file first i n size : ℕ) (a : Answer) (f : Fault) → probe row first i ≡ Ok tt → i < n → size ≡ 512 → a ≡ answer row (first + i) size → Err f ≡ named file a
    → Err f ≡ named file (probe row first n)
probe_refused row file first i n size a f before l fit is refused =
    let r = named_refused file a f refused in
    let p : probe row first (suc i) ≡ Err r.0 = grind arith in
    refused ∙ ap (named file) (r.1 ∙ sym (refused_stays row first r.0 (suc i) n (omega arith) p))

and_done : (a b : Answer) → and_then a b ≡ Ok tt → (a ≡ Ok tt) × (b ≡ Ok tt)
and_done a b both = grind arith

-- each segment of a span that was probed may be read and written
probe_front : (row : List Segment) (first i n : ℕ) → i ≤ n → probe row first n ≡ Ok tt → probe row first i ≡ Ok tt
probe_front row first i zero l e = let z : 0 ≡ i = omega arith in subst (λ k. probe row first k ≡ Ok tt) z e
probe_front row first i (suc n) l e =
    ⊎_elim
    (λ (k : n < i). let z : suc n ≡ i = omega arith in subst (λ j. probe row first j ≡ Ok tt) z e)
    (λ (k : i ≤ n). probe_front row first i n k (and_done (probe row first n) (answer row (first + n) 512) e).0)
    (cases_lt n i)

pub probed : (row : List Segment) (first n i : ℕ) → probe row first n ≡ Ok tt → i < n → answer row (first + i) 512 ≡ Ok tt
probed row first n i e l = let p : probe row first (suc i) ≡ Ok tt = probe_front row first (suc i) n (omega arith) e in grind arith

-- so the number of the next one is no larger than the count
pub number_fits : (row : List Segment) (first i n : ℕ) → Proper row → first < 2 ^ 64 → i ≤ n → probe row first n ≡ Ok tt → first + i < 2 ^ 64
number_fits row first i n proper fits l e = grind arith

pub never_refused : (row : List Segment) (file first n i size : ℕ) (a : Answer) (f : Fault) → probe row first n ≡ Ok tt → i < n → size ≡ 512 → a ≡ answer row (first + i) size → Err f ≡ named file a → ⊥
never_refused row file first n i size a f e l fit is refused = let p = probed row first n i e l in grind arith

-- the three ways that a span is answered
pub probe_done : (row : List Segment) (file first n : ℕ) (u : Unit {0}) → Ok u ≡ named file (probe row first n) → probe row first n ≡ Ok tt
probe_done row file first n u done = grind arith

pub span_done : (row : List Segment) (first size n : ℕ) → IsProbed row first size n → span_answer row first size ≡ Ok tt
span_done row first size n p = grind arith

pub only_done : {X : Type 0} (a : Answer) (new old : X) → a ≡ Ok tt → only_if a new old ≡ new
only_done a new old done = cc

pub only_refused : {X : Type 0} (file : ℕ) (a : Answer) (f : Fault) (new old : X) → Err f ≡ named file a → only_if a new old ≡ old
only_refused file a f new old refused = grind arith

-- a segment read into its part of the buffer
pub read_more : (row : List Segment) (first i k : ℕ) (buffer part ys : List ℕ)
    → take (i * 512) buffer ≡ span row first i → i * 512 ≤ length buffer → length ys ≡ 512
    → answer row (first + i) (length part) ≡ Ok tt → ys ≡ read_after row (first + i) part
    → take ((i + 1) * 512) (put_mid (i * 512) k buffer ys) ≡ span row first (i + 1)
read_more row first i k buffer part ys e h l a r =
    let n : (i + 1) * 512 ≡ i * 512 + length ys = omega arith in
    let s : span row first (i + 1) ≡ span row first i ++ bytes_of (get_or row (first + i) bad) = rw add-one in
    take-put_mid (i * 512) k buffer ys ((i + 1) * 512) n h
    ∙ ap₂ ◌++◌ e (r ∙ ap (λ b. only_if b (bytes_of (get_or row (first + i) bad)) part) a)
    ∙ sym s

-- what was put in, and what it leaves
same_span : (row row' : List Segment) (first n : ℕ) → ((i : ℕ) → first ≤ i → i < first + n → get_or row' i bad ≡ get_or row i bad) → span row' first n ≡ span row first n
same_span row row' first zero h = refl
same_span row row' first (suc n) h =
    ap₂ ◌++◌ (same_span row row' first n (λ i a b. h i a (omega arith))) (ap bytes_of (h (first + n) (omega arith) (omega arith)))

put-goods : (row : List Segment) (first n : ℕ) (bytes : List ℕ) → probe row first n ≡ Ok tt → goods (put row first n bytes) ≡ goods row
put-goods row first zero bytes e = refl
put-goods row first (suc n) bytes e =
    let before = put row first n bytes in
    let p = and_done (probe row first n) (answer row (first + n) 512) e in
    let g = put-goods row first n bytes p.0 in
    let a = allowed_means before (first + n) 512 (answer-goods row before (first + n) 512 g ∙ p.1) in
    goods-set before (first + n) (bytes_from bytes (n * 512)) a.holds ∙ g

put_other : (row : List Segment) (first n : ℕ) (bytes : List ℕ) (i : ℕ) → (i < first) ⊎ (first + n ≤ i) → get_or (put row first n bytes) i bad ≡ get_or row i bad
put_other row first zero bytes i o = refl
put_other row first (suc n) bytes i o =
    get_or-set_other (put row first n bytes) (first + n) i (good (bytes_from bytes (n * 512))) bad (λ z. away o z)
    ∙ put_other row first n bytes i (⊎_elim (λ (k : i < first). inl k) (λ (k : first + suc n ≤ i). inr (omega arith)) o)
  where
    away : (i < first) ⊎ (first + suc n ≤ i) → i ≡ first + n → ⊥
    away (inl k) z = omega arith
    away (inr k) z = omega arith

take_further : (n : ℕ) (xs : List ℕ) → take (n * 512) xs ++ bytes_from xs (n * 512) ≡ take (suc n * 512) xs
take_further n xs =
    let k : n * 512 + 512 - n * 512 ≡ 512 = omega arith in
    let m : n * 512 + 512 ≡ suc n * 512 = omega arith in
    ap (λ j. take (n * 512) xs ++ take j (drop (n * 512) xs)) k ∙ sym (take-add (n * 512) 512 xs) ∙ ap (λ j. take j xs) m

put_holds : (row : List Segment) (first n : ℕ) (bytes : List ℕ) → probe row first n ≡ Ok tt → span (put row first n bytes) first n ≡ take (n * 512) bytes
put_holds row first zero bytes e = refl
put_holds row first (suc n) bytes e =
    let before = put row first n bytes in
    let x = bytes_from bytes (n * 512) in
    let p = and_done (probe row first n) (answer row (first + n) 512) e in
    let a = allowed_means before (first + n) 512 (answer-goods row before (first + n) 512 (put-goods row first n bytes p.0) ∙ p.1) in
    ap₂ ◌++◌
    (same_span before (set before (first + n) (good x)) first n (λ i b c. get_or-set_other before (first + n) i (good x) bad (λ z. below i c z)) ∙ put_holds row first n bytes p.0)
    (ap bytes_of (get_or-set_same before (first + n) (good x) bad a.there))
    ∙ take_further n bytes
  where
    below : (i : ℕ) → i < first + n → i ≡ first + n → ⊥
    below i c z = omega arith

pub put_wrote : (row : List Segment) (first n : ℕ) (bytes : List ℕ) → length bytes ≡ n * 512 → probe row first n ≡ Ok tt → Wrote row (put row first n bytes) first n bytes
put_wrote row first n bytes h e =
    record {
      holds = put_holds row first n bytes e ∙ take_all (n * 512) bytes (omega arith);
      apart = λ at m o. same_span row (put row first n bytes) at m (λ i a b. put_other row first n bytes i (⊎_elim (λ (k : at + m ≤ first). inl (omega arith)) (λ (k : first + n ≤ at). inr (omega arith)) o));
      marks = put-goods row first n bytes e;
    }

-- a segment of a probed span is still not refused where some were put in before it
pub never_refused_behind : (row row' : List Segment) (file first n i size : ℕ) (bytes : List ℕ) (a : Answer) (f : Fault)
    → probe row first n ≡ Ok tt → i < n → row' ≡ put row first i bytes → size ≡ 512 → a ≡ answer row' (first + i) size → Err f ≡ named file a → ⊥
never_refused_behind row row' file first n i size bytes a f e l h s q d =
    let g : goods row' ≡ goods row = ap goods h ∙ put-goods row first i bytes (probe_front row first i n (omega arith) e) in
    never_refused row file first n i size a f e l s (q ∙ answer-goods row row' (first + i) size g) d

-- a segment written behind those that were
pub put_more : (row row' row'' : List Segment) (first n i : ℕ) (bytes part : List ℕ) → probe row first n ≡ Ok tt → i < n → row' ≡ put row first i bytes → part ≡ bytes_from bytes (i * 512) → length part ≡ 512
    → row'' ≡ write_after row' (first + i) part → row'' ≡ put row first (i + 1) bytes
put_more row row' row'' first n i bytes part e l h q s w =
    let g = put-goods row first i bytes (probe_front row first i n (omega arith) e) in
    let a : answer row' (first + i) (length part) ≡ Ok tt =
    ap (λ r. answer r (first + i) (length part)) h ∙ answer-goods row (put row first i bytes) (first + i) (length part) g ∙ ap (answer row (first + i)) s ∙ probed row first n i e l in
    let step : row'' ≡ put row first (suc i) bytes = w ∙ only_done (answer row' (first + i) (length part)) _ row' a ∙ ap₂ (λ r x. set r (first + i) (good x)) h q in
    rw add-one step

-- the segments of a span that was probed hold 512 bytes each
pub full_segment : (row : List Segment) (i size : ℕ) → Proper row → answer row i size ≡ Ok tt → length (bytes_of (get_or row i bad)) ≡ 512
full_segment row i size proper done = grind arith

pub length-span : (row : List Segment) (first n : ℕ) → Proper row → probe row first n ≡ Ok tt → length (span row first n) ≡ n * 512
length-span row first zero p e = refl
length-span row first (suc n) p e =
    let q = and_done (probe row first n) (answer row (first + n) 512) e in
    let a = length-span row first n p q.0 in
    let b = full_segment row (first + n) 512 p q.1 in
    simp length-append (omega arith)

bytes_left : (xs ys : List ℕ) (a : ℕ) → a + 512 ≤ length xs → bytes_from (xs ++ ys) a ≡ bytes_from xs a
bytes_left xs ys a inside = grind (arith, common_steps)

bytes_right : (xs ys : List ℕ) (a : ℕ) → length xs ≡ a → length ys ≡ 512 → bytes_from (xs ++ ys) a ≡ ys
bytes_right xs ys a left right = grind (arith, common_steps)

pub span_at : (row : List Segment) (first n i : ℕ) → Proper row → probe row first n ≡ Ok tt → i < n → bytes_from (span row first n) (i * 512) ≡ bytes_of (get_or row (first + i) bad)
span_at row first zero i p e l = absurd (omega arith)
span_at row first (suc n) i p e l =
    let q = and_done (probe row first n) (answer row (first + n) 512) e in
    let m = length-span row first n p q.0 in
    let x = bytes_of (get_or row (first + n) bad) in
    ⊎_elim
    (λ (k : i < n). bytes_left (span row first n) x (i * 512) (omega arith) ∙ span_at row first n i p q.0 k)
    (λ (k : n ≤ i). let z : i ≡ n = omega arith in
    ap (λ j. bytes_from (span row first n ++ x) (j * 512)) z ∙ bytes_right (span row first n) x (n * 512) m (full_segment row (first + n) 512 p q.1) ∙ ap (λ j. bytes_of (get_or row (first + j) bad)) (sym z))
    (cases_lt i n)
