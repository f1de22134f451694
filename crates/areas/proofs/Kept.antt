-- Two memories of which the same is kept: every chain of the one has the pages that it has in the other. Assumes nothing.
use Rattle.std.proofs.Common.{◌≡◌, ℕ, zero, suc, ◌+◌, ◌-◌, ◌*◌, ◌/◌, ◌<◌, ◌≤◌, Bool, true, false, cond, ◌&&◌, eqb, leb, List, [], ◌∷◌, length, get_or, drop, Some, None, unwrap_or, sym, refl, ap, ◌∙◌, ⊎_elim, arith}
use Rattle.std.proofs.lemmas.List.FromFn.{length-map-range_with_len, get_or-map-range_with_len}
use Rattle.std.proofs.lemmas.List.Edits.{length-between, get_or-between}
use Rattle.std.proofs.lemmas.Bool.{and_left, and_right, cases_Bool, cond_both}
use Rattle.areas.specs.ChainedRows.{walk, pages_from, base_of, next_of, mark_of, in_pool, page_ok, has, leads_through, fits_pool, kept_length, kept_of, kept_pages, chain_kept}
use Rattle.std.specs.Option.{option_map}
use Rattle.areas.specs.PlainRows.{whole}
use Rattle.areas.specs.Laws.{pool_some, pool_most}
use Rattle.areas.proofs.Walks.{walk_bad}

out : (a b c : Bool) → a ≡ false → ((a && b) && c) ≡ false
out a b c h = and_left (a && b) c (and_left a b h)

-- the bytes that are kept of a page
kept_byte : (m ps : List ℕ) (k j d : ℕ) → k < length m / 516 → j < kept_length m ps k → get_or (get_or (kept_pages m ps) k []) j d ≡ get_or m (k * 516 + j) d
kept_byte m ps k j d l h =
    ap (λ b. get_or b j d) (get_or-map-range_with_len (kept_of m ps) 0 (length m / 516) k k [] l (omega arith)) ∙ get_or-between m (k * 516) (k * 516 + kept_length m ps k) j d (omega arith)

kept_four : (m ps : List ℕ) (k : ℕ) → 4 ≤ kept_length m ps k
kept_four m ps k = cond_both (has (k + 1) ps && eqb (mark_of m (k + 1)) 0) 4 516 (λ n. 4 ≤ n) (λ _. omega arith) (λ _. omega arith)

-- two memories of which the same is kept: their pages have the same leading bytes
module _ (m x ps : List ℕ) (l : length x ≡ length m) (e : kept_pages x ps ≡ kept_pages m ps) where
  pub kept_same : (k j d : ℕ) → k < length m / 516 → j < kept_length x ps k → j < kept_length m ps k → get_or x (k * 516 + j) d ≡ get_or m (k * 516 + j) d
  kept_same k j d lt a b = sym (kept_byte x ps k j d (omega arith) a) ∙ ap (λ ks. get_or (get_or ks k []) j d) e ∙ kept_byte m ps k j d lt b

  pub lead_same : (p j : ℕ) → in_pool (length m / 516) p ≡ true → j < 4 → get_or x (base_of p + j) 0 ≡ get_or m (base_of p + j) 0
  lead_same p j h lt =
      let p0 = pool_some (length m / 516) p h in
      let p1 = pool_most (length m / 516) p h in
      kept_same (p - 1) j 0 (omega arith) (omega (arith, kept_four x ps (p - 1))) (omega (arith, kept_four m ps (p - 1)))

  next_same : (p : ℕ) → in_pool (length m / 516) p ≡ true → next_of x p ≡ next_of m p
  next_same p h =
      let z : base_of p + 0 ≡ base_of p = omega arith in
      let a : get_or x (base_of p) 0 ≡ get_or m (base_of p) 0 = ap (λ i. get_or x i 0) (sym z) ∙ lead_same p 0 h (omega arith) ∙ ap (λ i. get_or m i 0) z in
      let b = lead_same p 1 h (omega arith) in
      cc

  ok_same : (p : ℕ) → page_ok x p ≡ page_ok m p
  ok_same p =
      let n : in_pool (length x / 516) p ≡ in_pool (length m / 516) p = ap (λ k. in_pool (k / 516) p) l in
      ⊎_elim
      (λ h. let a = lead_same p 2 h (omega arith) in let b = lead_same p 3 h (omega arith) in cc)
      (λ h. out (in_pool (length x / 516) p) (leb (mark_of x p) 1) (eqb (get_or x (base_of p + 3) 0) 0) (n ∙ h)
      ∙ sym (out (in_pool (length m / 516) p) (leb (mark_of m p) 1) (eqb (get_or m (base_of p + 3) 0) 0) h))
      (cases_Bool (in_pool (length m / 516) p))

  leads_same : (page : ℕ) (pages : List ℕ) → leads_through x page pages ≡ leads_through m page pages
  leads_same page [] = refl
  leads_same page (p ∷ pages) =
      ⊎_elim
      (λ h. ap (λ b. (eqb p page && b) && leads_through x (next_of x page) pages) (ok_same page)
      ∙ ap (λ q. (eqb p page && page_ok m page) && leads_through x q pages) (next_same page h)
      ∙ ap (λ b. (eqb p page && page_ok m page) && b) (leads_same (next_of m page) pages))
      (λ h. let o = out (in_pool (length m / 516) page) (leb (mark_of m page) 1) (eqb (get_or m (base_of page + 3) 0) 0) h in
      stops (eqb p page) (page_ok x page) _ (ok_same page ∙ o) ∙ sym (stops (eqb p page) (page_ok m page) _ o))
      (cases_Bool (in_pool (length m / 516) page))
    where
      stops : (a b c : Bool) → b ≡ false → ((a && b) && c) ≡ false
      stops a b c h = and_left (a && b) c (and_right a b h)

  walk_same : (n p : ℕ) → walk x n p ≡ walk m n p
  walk_same zero p = refl
  walk_same (suc n) p =
      ⊎_elim
      (λ h. ap (λ b. cond b (cond (eqb (next_of x p) 0) (Some (p ∷ [])) (option_map (λ ps. p ∷ ps) (walk x n (next_of x p)))) None) (ok_same p)
      ∙ ap (λ q. cond (page_ok m p) (cond (eqb q 0) (Some (p ∷ [])) (option_map (λ ps. p ∷ ps) (walk x n q))) None) (next_same p h)
      ∙ ap (λ o. cond (page_ok m p) (cond (eqb (next_of m p) 0) (Some (p ∷ [])) (option_map (λ ps. p ∷ ps) o)) None) (walk_same n (next_of m p)))
      (λ h. let o = out (in_pool (length m / 516) p) (leb (mark_of m p) 1) (eqb (get_or m (base_of p + 3) 0) 0) h in
      walk_bad x (suc n) p (ok_same p ∙ o) ∙ sym (walk_bad m (suc n) p o))
      (cases_Bool (in_pool (length m / 516) p))

  -- every chain of the pool has the pages that it had
  pub pages_same : (first : ℕ) → pages_from x first ≡ pages_from m first
  pages_same first =
      ap (λ n. cond (whole 516 n) (unwrap_or (walk x (n / 516) first) []) []) l ∙ ap (λ o. cond (whole 516 (length m)) (unwrap_or o []) []) (walk_same (length m / 516) first)

  pub fits_same : (size first : ℕ) (pages : List ℕ) → fits_pool x size first pages ≡ fits_pool m size first pages
  fits_same size first pages =
      let s = leads_same first pages in
      cc

-- what is kept of a memory tells its length
pub same_length : (m x ps qs : List ℕ) → chain_kept x qs ≡ chain_kept m ps → length x ≡ length m
same_length m x ps qs e =
    let n : length x / 516 ≡ length m / 516 =
    sym (length-map-range_with_len (kept_of x qs) 0 (length x / 516)) ∙ ap (λ ks. length (drop 1 ks)) e ∙ length-map-range_with_len (kept_of m ps) 0 (length m / 516) in
    let r : length x - length x / 516 * 516 ≡ length m - length m / 516 * 516 =
    sym (length-between x (length x / 516 * 516) (length x) (omega arith)) ∙ ap (λ ks. length (get_or ks 0 [])) e ∙ length-between m (length m / 516 * 516) (length m) (omega arith) in
    omega arith
