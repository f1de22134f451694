-- Reading and writing segments that lie in pages. Assumes nothing.
use Rattle.std.proofs.Common.{◌≡◌, ℕ, ◌+◌, ◌-◌, ◌*◌, ◌/◌, ◌<◌, ◌≤◌, Bool, true, false, cond, ◌&&◌, eqb, leb, List, ◌∷◌, length, get_or, set, Option, sym, refl, ap, ◌∙◌, subst, inl, inr, ⊎_elim, arith}
use borrow.Rule.Slice.PartMut.{put_mid}
use Rattle.std.specs.List.{between}
use Rattle.std.specs.Prelude.{MatchOption}
use Rattle.std.specs.Bool.{then_some}
use Rattle.std.proofs.lemmas.Bool.Decides.{nat_tests}
use Rattle.std.proofs.lemmas.List.{same_lists, length-set, get_or-set_same, get_or-set_other}
use Rattle.std.proofs.lemmas.List.FromFn.{length-map-range_with_len, get_or-map-range_with_len}
use Rattle.std.proofs.lemmas.Bool.{and_parts, and_from, cond-true, cond-false, cases_eq, cases_lt, cases_Bool, eq-eqb, eqb-true, eqb-false, both_ways}
use Rattle.store.specs.Rows.{good, bad, bytes_from}
use Rattle.areas.specs.ChainedRows.{base_of, mark_of, in_pool, has, once, page_segment, row_of, kept_length, kept_of, kept_pages, chain_kept}
use Rattle.areas.specs.declared.chained.InPages.{InPages}
use Rattle.areas.specs.Areas.{chained_suits, chained_row, chained_frame}
use Rattle.areas.specs.Cuts.{Placed}
use Rattle.areas.specs.Laws.{pool_some, pool_most, page_within, once_in, length-row_of, row_at}
use Rattle.areas.proofs.Memory.{length-put_mid, get_or-put_mid_below, get_or-put_mid_above, apart, written_here}
use Rattle.areas.proofs.Walks.{once_apart, has_at}

pub page_in_pool : (n k : ℕ) → k < n → in_pool n (k + 1) ≡ true
page_in_pool n k l = grind (arith, nat_tests)

pub page_good : (m : List ℕ) (p : ℕ) → mark_of m p ≡ 0 → page_segment m p ≡ good (bytes_from m (base_of p + 4))
page_good m p e = grind (arith, nat_tests)

page_bad : (m : List ℕ) (p : ℕ) → (mark_of m p ≡ 0 → ⊥) → page_segment m p ≡ bad
page_bad m p e = grind (arith, nat_tests)

-- the segment of page p is written
module _ (m ys : List ℕ) (p : ℕ) (h : in_pool (length m / 516) p ≡ true) (n : length ys ≡ 512) where
  long : length (put_mid (base_of p + 4) 512 m ys) ≡ length m
  long = length-put_mid (base_of p + 4) 512 m ys (omega (arith, page_within m p h)) n

  -- bytes of another page, or before the segment of this one
  outside : (q j : ℕ) → in_pool (length m / 516) q ≡ true → (q ≡ p → j < 4) → j < 516
      → get_or (put_mid (base_of p + 4) 512 m ys) (base_of q + j) 0 ≡ get_or m (base_of q + j) 0
  outside q j k head l =
      let w = page_within m p h in
      let p0 = pool_some (length m / 516) p h in
      let q0 = pool_some (length m / 516) q k in
      ⊎_elim
      (λ (b : p < q). get_or-put_mid_above (base_of p + 4) 512 (base_of q + j) 0 m ys (omega arith) n (omega arith))
      (λ (b : q ≤ p). get_or-put_mid_below (base_of p + 4) 512 (base_of q + j) 0 m ys (omega arith) n
      (⊎_elim (λ same. let j< = head same in omega arith) (λ other. omega arith) (cases_eq q p)))
      (cases_lt p q)

  part_same : mark_of m p ≡ 0 → page_segment (put_mid (base_of p + 4) 512 m ys) p ≡ good ys
  part_same e =
      page_good (put_mid (base_of p + 4) 512 m ys) p (outside p 2 h (λ _. omega arith) (omega arith) ∙ e)
      ∙ ap good (written_here (base_of p + 4) m ys (omega (arith, page_within m p h)) n)

  part_other : (q : ℕ) → in_pool (length m / 516) q ≡ true → (q ≡ p → ⊥) → page_segment (put_mid (base_of p + 4) 512 m ys) q ≡ page_segment m q
  part_other q k ne =
      let w = page_within m p h in
      let v = page_within m q k in
      let p0 = pool_some (length m / 516) p h in
      let q0 = pool_some (length m / 516) q k in
      let bytes = apart (base_of p + 4) 512 (base_of q + 4) 512 m ys (omega arith) n (⊎_elim (λ (b : p < q). inl (omega arith)) (λ (b : q ≤ p). inr (omega arith)) (cases_lt p q)) in
      ap (λ x. cond (eqb x 0) (good (bytes_from (put_mid (base_of p + 4) 512 m ys) (base_of q + 4))) bad) (outside q 2 k (λ s. absurd (ne s)) (omega arith))
      ∙ ap (λ x. cond (eqb (mark_of m q) 0) (good x) bad) bytes

  -- what is kept of a page, where this one is good and on the chain
  kept_of-put_mid : (ps : List ℕ) (k : ℕ) → has p ps ≡ true → mark_of m p ≡ 0 → k < length m / 516 → kept_of (put_mid (base_of p + 4) 512 m ys) ps k ≡ kept_of m ps k
  kept_of-put_mid ps k on mark l =
      let m' = put_mid (base_of p + 4) 512 m ys in
      let w = page_within m p h in
      let p0 = pool_some (length m / 516) p h in
      let q = page_in_pool (length m / 516) k l in
      let marks : mark_of m' (k + 1) ≡ mark_of m (k + 1) = outside (k + 1) 2 q (λ _. omega arith) (omega arith) in
      let same : kept_length m' ps k ≡ kept_length m ps k = ap (λ x. cond (has (k + 1) ps && eqb x 0) 4 516) marks in
      ap (λ j. between (k * 516) (k * 516 + j) m') same
      ∙ ⊎_elim
      (λ t. let four : kept_length m ps k ≡ 4 = cond-true (has (k + 1) ps && eqb (mark_of m (k + 1)) 0) 4 516 t in
      ap (λ j. between (k * 516) (k * 516 + j) m') four
      ∙ apart (base_of p + 4) 512 (k * 516) 4 m ys (omega arith) n (⊎_elim (λ (b : k < p). inr (omega arith)) (λ (b : p ≤ k). inl (omega arith)) (cases_lt k p))
      ∙ ap (λ j. between (k * 516) (k * 516 + j) m) (sym four))
      (λ f. let all : kept_length m ps k ≡ 516 = cond-false (has (k + 1) ps && eqb (mark_of m (k + 1)) 0) 4 516 f in
      let ne : k + 1 ≡ p → ⊥ = λ e. both_ways (has p ps && eqb (mark_of m p) 0) (ap (λ x. has x ps && eqb (mark_of m x) 0) (sym e) ∙ f) (and_from (has p ps) (eqb (mark_of m p) 0) on (eq-eqb (mark_of m p) 0 mark)) in
      ap (λ j. between (k * 516) (k * 516 + j) m') all
      ∙ apart (base_of p + 4) 512 (k * 516) 516 m ys (omega arith) n (⊎_elim (λ (b : k + 1 < p). inr (omega arith)) (λ (b : p ≤ k + 1). inl (past k b ne)) (cases_lt (k + 1) p))
      ∙ ap (λ j. between (k * 516) (k * 516 + j) m) (sym all))
      (cases_Bool (has (k + 1) ps && eqb (mark_of m (k + 1)) 0))
    where
      past : (k : ℕ) → p ≤ k + 1 → (k + 1 ≡ p → ⊥) → base_of p + 4 + 512 ≤ k * 516
      past k b ne = let p0 = pool_some (length m / 516) p h in omega arith

  kept_pages-put_mid : (ps : List ℕ) → has p ps ≡ true → mark_of m p ≡ 0 → kept_pages (put_mid (base_of p + 4) 512 m ys) ps ≡ kept_pages m ps
  kept_pages-put_mid ps on mark =
      let m' = put_mid (base_of p + 4) 512 m ys in
      let c : length (kept_pages m' ps) ≡ length m / 516 = length-map-range_with_len (kept_of m' ps) 0 (length m' / 516) ∙ ap (λ x. x / 516) long in
      same_lists _ _ (c ∙ sym (length-map-range_with_len (kept_of m ps) 0 (length m / 516)))
      (λ k d lt.
      let k< : k < length m / 516 = omega (arith, c) in
      get_or-map-range_with_len (kept_of m' ps) 0 (length m' / 516) k k d (omega (arith, ap (λ x. x / 516) long)) (omega arith)
      ∙ kept_of-put_mid ps k on mark k<
      ∙ sym (get_or-map-range_with_len (kept_of m ps) 0 (length m / 516) k k d k< (omega arith)))

  pub chain_kept-put_mid : (ps : List ℕ) → has p ps ≡ true → mark_of m p ≡ 0 → chain_kept (put_mid (base_of p + 4) 512 m ys) ps ≡ chain_kept m ps
  chain_kept-put_mid ps on mark =
      let m' = put_mid (base_of p + 4) 512 m ys in
      let w = page_within m p h in
      let p1 = pool_most (length m / 516) p h in
      let s : length m / 516 * 516 + (length m - length m / 516 * 516) ≡ length m = omega arith in
      ap (λ n. between (n / 516 * 516) n m' ∷ kept_pages m' ps) long
      ∙ ap (λ n. between (length m / 516 * 516) n m' ∷ kept_pages m' ps) (sym s)
      ∙ ap (λ x. x ∷ kept_pages m' ps) (apart (base_of p + 4) 512 (length m / 516 * 516) (length m - length m / 516 * 516) m ys (omega arith) n (inl (omega arith)))
      ∙ ap (λ n. between (length m / 516 * 516) n m ∷ kept_pages m' ps) s
      ∙ ap (λ x. between (length m / 516 * 516) (length m) m ∷ x) (kept_pages-put_mid ps on mark)

row_written : (m ps ys : List ℕ) (i : ℕ) → once (length m / 516) ps ≡ true → i < length ps → mark_of m (get_or ps i 0) ≡ 0 → length ys ≡ 512
    → row_of (put_mid (base_of (get_or ps i 0) + 4) 512 m ys) ps ≡ set (row_of m ps) i (good ys)
row_written m ps ys i s l e n =
    let p = get_or ps i 0 in
    let m' = put_mid (base_of p + 4) 512 m ys in
    let h = once_in (length m / 516) ps i s l in
    let c = length-row_of m ps in
    let c' = length-row_of m' ps in
    same_lists _ _ (c' ∙ sym (length-set (row_of m ps) i (good ys) ∙ c))
    (λ j d lt.
    let k : j < length ps = omega arith in
    row_at m' ps j d k
    ∙ ⊎_elim
    (λ same. ap (λ x. page_segment m' (get_or ps x 0)) same ∙ part_same m ys p h n e
    ∙ sym (ap (λ x. get_or (set (row_of m ps) i (good ys)) x d) same ∙ get_or-set_same (row_of m ps) i (good ys) d (omega arith)))
    (λ other. part_other m ys p h n (get_or ps j 0) (once_in (length m / 516) ps j s k) (λ q. other (once_apart (length m / 516) ps j i s k l q))
    ∙ sym (get_or-set_other (row_of m ps) i j (good ys) d other ∙ row_at m ps j d k))
    (cases_eq j i))

-- segment i of a pool that is cut into pages, and its page x
module _ (c : InPages) (m : List ℕ) (suits : chained_suits c (length m) ≡ true) (i x : ℕ) (l : i < length c.pages.now) (e : x ≡ get_or c.pages.now i 0) where
  all_once : once (length m / 516) c.pages.now ≡ true
  all_once = (and_parts (leb (length c.pages.now) 65535) (once (length m / 516) c.pages.now) suits).1

  within : in_pool (length m / 516) x ≡ true
  within = ap (in_pool (length m / 516)) e ∙ once_in (length m / 516) c.pages.now i all_once l

  pub from_one : 1 ≤ x
  from_one = pool_some (length m / 516) x within

  pub page_inside : base_of x + 516 ≤ length m
  page_inside = page_within m x within

  segment_is : get_or (chained_row c m) i bad ≡ page_segment m x
  segment_is = row_at m c.pages.now i bad l ∙ ap (page_segment m) (sym e)

  placed : mark_of m x ≡ 0 → Placed (chained_row c) (chained_frame c) m i (base_of x + 4)
  placed mark = record {
    inside = omega (arith, page_inside);
    holds = segment_is ∙ page_good m x mark;
    written = λ ys n.
        ap (λ y. row_of (put_mid (base_of y + 4) 512 m ys) c.pages.now) e ∙ row_written m c.pages.now ys i all_once l (ap (mark_of m) (sym e) ∙ mark) n;
    framed = λ ys n.
        ap (λ k. c.pages.now ∷ k) (chain_kept-put_mid m ys x within n c.pages.now (ap (λ y. has y c.pages.now) e ∙ has_at c.pages.now i l) mark);
  }

  pub page_start : (o : Option ℕ) → o ≡ then_some (eqb (mark_of m x) 0) (base_of x + 4) → MatchOption o (get_or (chained_row c m) i bad ≡ bad) (Placed (chained_row c) (chained_frame c) m i)
  page_start o h =
      subst (λ o. MatchOption o (get_or (chained_row c m) i bad ≡ bad) (Placed (chained_row c) (chained_frame c) m i)) (sym h) (by (eqb (mark_of m x) 0) refl)
    where
      by : (b : Bool) → eqb (mark_of m x) 0 ≡ b → MatchOption (then_some b (base_of x + 4)) (get_or (chained_row c m) i bad ≡ bad) (Placed (chained_row c) (chained_frame c) m i)
      by true t = placed (eqb-true (mark_of m x) 0 t)
      by false t = segment_is ∙ page_bad m x (eqb-false (mark_of m x) 0 t)
