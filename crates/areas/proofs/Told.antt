-- A row and what is kept beside it tell the whole memory. Assumes nothing.
use Rattle.std.proofs.Common.{◌≡◌, ℕ, suc, ◌+◌, ◌-◌, ◌*◌, ◌/◌, ◌%◌, ◌<◌, ◌≤◌, true, false, cond, ◌&&◌, eqb, List, [], ◌∷◌, length, get_or, drop, sym, refl, ap, ◌∙◌, ⊎_elim, arith}
use Rattle.std.specs.List.{between}
use Rattle.std.proofs.lemmas.List.{same_lists}
use Rattle.std.proofs.lemmas.List.Edits.{get_or-between}
use Rattle.std.proofs.lemmas.Bool.{and_parts, or_cases, both_ways, cond-true, cond-false, cases_Bool, cases_lt, eqb-true}
use Rattle.store.specs.Rows.{good, bad, bytes_from}
use Rattle.areas.specs.PlainRows.{whole, plain_row, plain_frame}
use Rattle.areas.specs.ChainedRows.{base_of, mark_of, has, page_segment, row_of, kept_length, kept_pages, chain_kept}
use Rattle.areas.specs.Laws.{whole_means, row_at}
use Rattle.areas.proofs.PlainParts.{plain_at}
use Rattle.areas.proofs.ChainParts.{page_in_pool, page_good}
use Rattle.areas.proofs.Kept.{kept_same, lead_same}

byte_from : (m x : List ℕ) (a j d : ℕ) → bytes_from x a ≡ bytes_from m a → j < 512 → get_or x (a + j) d ≡ get_or m (a + j) d
byte_from m x a j d e l =
    sym (get_or-between x a (a + 512) j d (omega arith)) ∙ ap (λ b. get_or b j d) e ∙ get_or-between m a (a + 512) j d (omega arith)

plain_byte : (m x : List ℕ) (t d : ℕ) → whole 512 (length m) ≡ true → length x ≡ length m → plain_row x ≡ plain_row m → t < length m → t / 512 < length m / 512 → get_or x t d ≡ get_or m t d
plain_byte m x t d w l r lt k =
    let s : good (bytes_from x (t / 512 * 512)) ≡ good (bytes_from m (t / 512 * 512)) =
    sym (plain_at x (t / 512) bad (ap (whole 512) l ∙ w) (omega arith)) ∙ ap (λ row. get_or row (t / 512) bad) r ∙ plain_at m (t / 512) bad w k in
    let e : bytes_from x (t / 512 * 512) ≡ bytes_from m (t / 512 * 512) = cc in
    let z : t / 512 * 512 + t % 512 ≡ t = omega arith in
    ap (λ i. get_or x i d) (sym z) ∙ byte_from m x (t / 512 * 512) (t % 512) d e (omega arith) ∙ ap (λ i. get_or m i d) z

pub plain_told : (m x : List ℕ) → length x ≡ length m → plain_row x ≡ plain_row m → plain_frame x ≡ plain_frame m → x ≡ m
plain_told m x l r f =
    ⊎_elim
    (λ w. let q = whole_means 512 (length m) w in same_lists x m l (λ t d lt. plain_byte m x t d w l r (omega arith) (omega arith)))
    (λ w. ap (λ fs. get_or fs 0 []) (sym (cond-false (whole 512 (length x)) [] (x ∷ []) (ap (whole 512) l ∙ w)) ∙ f ∙ cond-false (whole 512 (length m)) [] (m ∷ []) w))
    (cases_Bool (whole 512 (length m)))

has_place : (p : ℕ) (ps : List ℕ) → has p ps ≡ true → (i : ℕ) × ((i < length ps) × (get_or ps i 0 ≡ p))
has_place p [] h = absurd (both_ways false refl h)
has_place p (q ∷ ps) h =
    ⊎_elim
    (λ e. (0, (omega arith, sym (eqb-true p q e))))
    (λ e. let r = has_place p ps e in (suc r.0, (omega (arith, r.1.0), r.1.1)))
    (or_cases (eqb p q) (has p ps) h)

module _ (m x ps : List ℕ) (l : length x ≡ length m) (r : row_of x ps ≡ row_of m ps) (e : chain_kept x ps ≡ chain_kept m ps) where
  pages : kept_pages x ps ≡ kept_pages m ps
  pages = ap (drop 1) e

  -- a byte of page k + 1
  page_byte : (k j d : ℕ) → k < length m / 516 → j < 516 → get_or x (k * 516 + j) d ≡ get_or m (k * 516 + j) d
  page_byte k j d lt h =
      let q = page_in_pool (length m / 516) k lt in
      let mark : mark_of x (k + 1) ≡ mark_of m (k + 1) = lead_same m x ps l pages (k + 1) 2 q (omega arith) in
      let wide : kept_length x ps k ≡ kept_length m ps k = ap (λ n. cond (has (k + 1) ps && eqb n 0) 4 516) mark in
      ⊎_elim
      (λ (s : j < kept_length m ps k). kept_same m x ps l pages k j d lt (omega arith) s)
      (λ (s : kept_length m ps k ≤ j). in_row k j d s h mark)
      (cases_lt j (kept_length m ps k))
    where
      in_row : (k j d : ℕ) → kept_length m ps k ≤ j → j < 516 → mark_of x (k + 1) ≡ mark_of m (k + 1) → get_or x (k * 516 + j) d ≡ get_or m (k * 516 + j) d
      in_row k j d s h mark =
          ⊎_elim
          (λ t. let a = and_parts (has (k + 1) ps) (eqb (mark_of m (k + 1)) 0) t in
          let four : kept_length m ps k ≡ 4 = cond-true (has (k + 1) ps && eqb (mark_of m (k + 1)) 0) 4 516 t in
          let i = has_place (k + 1) ps a.0 in
          let z = eqb-true (mark_of m (k + 1)) 0 a.1 in
          let segment : page_segment x (k + 1) ≡ page_segment m (k + 1) =
          ap (page_segment x) (sym i.1.1) ∙ sym (row_at x ps i.0 bad i.1.0) ∙ ap (λ row. get_or row i.0 bad) r ∙ row_at m ps i.0 bad i.1.0 ∙ ap (page_segment m) i.1.1 in
          let both : good (bytes_from x (base_of (k + 1) + 4)) ≡ good (bytes_from m (base_of (k + 1) + 4)) = sym (page_good x (k + 1) (mark ∙ z)) ∙ segment ∙ page_good m (k + 1) z in
          let bytes : bytes_from x (base_of (k + 1) + 4) ≡ bytes_from m (base_of (k + 1) + 4) = cc in
          let at : base_of (k + 1) + 4 + (j - 4) ≡ k * 516 + j = omega arith in
          ap (λ n. get_or x n d) (sym at) ∙ byte_from m x (base_of (k + 1) + 4) (j - 4) d bytes (omega arith) ∙ ap (λ n. get_or m n d) at)
          (λ t. absurd (omega (arith, cond-false {A = ℕ} (has (k + 1) ps && eqb (mark_of m (k + 1)) 0) 4 516 t)))
          (cases_Bool (has (k + 1) ps && eqb (mark_of m (k + 1)) 0))

  -- a byte past the last whole page
  tail_byte : (t d : ℕ) → length m / 516 * 516 ≤ t → t < length m → get_or x t d ≡ get_or m t d
  tail_byte t d h lt =
      let a = length m / 516 * 516 in
      let z : a + (t - a) ≡ t = omega arith in
      let same : between (length m / 516 * 516) (length m) x ≡ between (length m / 516 * 516) (length m) m = ap (λ n. between (n / 516 * 516) n x) (sym l) ∙ ap (λ ks. get_or ks 0 []) e in
      ap (λ n. get_or x n d) (sym z) ∙ sym (get_or-between x a (length m) (t - a) d (omega arith)) ∙ ap (λ b. get_or b (t - a) d) same ∙ get_or-between m a (length m) (t - a) d (omega arith) ∙ ap (λ n. get_or m n d) z

  pub pool_told : x ≡ m
  pool_told =
      same_lists x m l
      (λ t d lt. ⊎_elim
      (λ (h : t / 516 < length m / 516). let z : t / 516 * 516 + t % 516 ≡ t = omega arith in
      ap (λ n. get_or x n d) (sym z) ∙ page_byte (t / 516) (t % 516) d h (omega arith) ∙ ap (λ n. get_or m n d) z)
      (λ (h : length m / 516 ≤ t / 516). tail_byte t d (omega arith) (omega arith))
      (cases_lt (t / 516) (length m / 516)))
