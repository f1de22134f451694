-- What of a pool's memory is known once its area is let go. Assumes nothing.
use Rattle.std.proofs.Common.{◌≡◌, ℕ, Bool, true, false, cond, ◌&&◌, eqb, List, [], ◌∷◌, length, get_or, drop, if◌then◌else◌, vec_items, sym, refl, ap, ◌∙◌, subst}
use Rattle.areas.specs.declared.chained.InPages.{InPages}
use Rattle.areas.specs.declared.index.Chain.{Chain}
use Rattle.areas.specs.PlainRows.{whole}
use Rattle.areas.specs.ChainedRows.{pages_from, leads_through, fits_pool, row_of, used_pages, chain_kept}
use Rattle.areas.specs.Areas.{Made, pool_pages, pool_row, pool_kept, chained_row, chained_frame}
use Rattle.areas.proofs.Pool.{area_made}
use Rattle.areas.proofs.Kept.{same_length, pages_same, fits_same}
use Rattle.areas.proofs.Told.{pool_told}

-- an area made over a pool with an index
used_is : (m : List ℕ) (ch : Chain) → used_pages (fits_pool m ch.size ch.first (vec_items ch.pages)) ch.size (length m) (vec_items ch.pages) ≡ pool_pages m ch
used_is m ch =
    let pages = vec_items ch.pages in
    let listed = leads_through m ch.first pages in
    by (eqb ch.size (length m)) (whole 516 (length m)) listed pages
  where
    by : (a b l : Bool) (ps : List ℕ) → cond (((a && b) && l) && a) ps [] ≡ cond ((a && b) && l) ps []
    by true true true ps = refl
    by true true false ps = refl
    by true false l ps = refl
    by false b l ps = refl

pub area_row : (m : List ℕ) (ch : Chain) (pages : List ℕ) → pages ≡ pool_pages m ch → Made ch m (row_of m pages)
area_row m ch pages e =
    subst (λ ps. Made ch m (row_of m ps)) (used_is m ch ∙ sym e) (area_made m ch (fits_pool m ch.size ch.first (vec_items ch.pages)) refl)

-- and its memory afterwards
pub record Afterwards (m : List ℕ) (ch : Chain) (c : InPages) (m' : List ℕ) : Type 0 where
  pub used : pool_pages m' ch ≡ pool_pages m ch
  pub row : pool_row m' ch ≡ chained_row c m'
  pub kept : pool_kept m' ch ≡ pool_kept m ch
  pub told : pool_row m' ch ≡ pool_row m ch → m' ≡ m
  pub chains : (first : ℕ) → pages_from m' first ≡ pages_from m first

pub afterwards : (m : List ℕ) (ch : Chain) (c : InPages) (m' : List ℕ) → chained_frame c m' ≡ pool_pages m ch ∷ pool_kept m ch → Afterwards m ch c m'
afterwards m ch c m' framed =
    let ps = pool_pages m ch in
    let used : c.pages.now ≡ ps = ap (λ f. get_or f 0 []) framed in
    let all : chain_kept m' ps ≡ chain_kept m ps = ap (chain_kept m') (sym used) ∙ ap (drop 1) framed in
    let long = same_length m m' ps ps all in
    let pages : pool_pages m' ch ≡ ps = ap (λ b. if b then vec_items ch.pages else []) (fits_same m m' ps long (ap (drop 1) all) ch.size ch.first (vec_items ch.pages)) in
    record {
      used = pages;
      row = ap (row_of m') (pages ∙ sym used);
      kept = ap (chain_kept m') pages ∙ all;
      told = λ r. pool_told m m' ps long (ap (row_of m') (sym pages) ∙ r) all;
      chains = pages_same m m' ps long (ap (drop 1) all);
    }
