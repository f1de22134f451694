-- A chain that ends has no more pages than the pool, so that it is found. Assumes nothing.
use Rattle.std.proofs.Common.{◌≡◌, ℕ, zero, suc, ◌/◌, ◌<◌, ◌≤◌, Bool, true, false, cond, ◌&&◌, eqb, List, [], ◌∷◌, length, map, is_some, Some, None, Ok, Err, vec_items, Option, unwrap_or, sym, refl, ap, ◌∙◌, ⊎_elim, arith, rules}
use Rattle.std.proofs.lemmas.Bool.{cond-false, cases_Bool, eqb-true, or_cases, or_parts}
use Rattle.std.proofs.lemmas.Bool.Decides.{nat_tests}
use borrow.Author.Tests.{tests}
use Rattle.std.specs.Bool.{Decides}
use Rattle.std.specs.List.{AllByRecursion, IsDistinct, list_any}
use Rattle.std.proofs.lemmas.List.{append-nil}
use Rattle.std.proofs.lemmas.Map.Steps.{length-le_from_distinct_below}
use Rattle.store.specs.Faults.{Answer, fault_of}
use Rattle.store.specs.declared.faults.Refusal.TheVariants.{UnfitMemory, BrokenChain}
use Rattle.areas.specs.PlainRows.{whole}
use Rattle.areas.specs.ChainedRows.{next_of, Ends, last, more, walk, pages_met, has, once, indexed, chain_look, pages_from, leads_through, fits_pool, row_of, used_pages, Looked}
use Rattle.areas.specs.Laws.{pool_some, whole_means}
use Rattle.areas.specs.declared.index.Chain.{Chain}
use Rattle.areas.specs.Areas.{Made}
use Rattle.areas.proofs.Walks.{page_in, none_zero, ends_once, leads_ends, walk_leads, walk_ends, met_none, walk-met, all_there, all_there-some, pages_from-met}

-- the pages of an index are distinct, and none is 0
apart_from : (q : ℕ) (ps : List ℕ) → has q ps ≡ false → AllByRecursion (λ p. eqb q p ≡ false) ps
apart_from q [] h = tt
apart_from q (p ∷ ps) h = let o = or_parts (eqb q p) (has q ps) h in (o.0, apart_from q ps o.1)

distinct : (n : ℕ) (ps : List ℕ) → once n ps ≡ true → (has 0 ps ≡ false) × IsDistinct eqb ps × ((q : ℕ) → list_any (eqb q) ps ≡ true → q ≤ n)
unfolding IsDistinct
distinct n [] h = (refl, tt, λ q e. absurd (cc))
distinct n (p ∷ ps) h =
    let r = distinct n ps (search (rules, tests)) in
    (search (rules, tests), (apart_from p ps (search (rules, tests)), r.1), λ q e. ⊎_elim (λ s. search (rules, tests)) (λ s. r.2 q s) (or_cases (eqb q p) (list_any (eqb q) ps) e))

-- no more pages than the pool has
pub once_few : (n : ℕ) (ps : List ℕ) → once n ps ≡ true → length ps ≤ n
unfolding IsDistinct
once_few n ps h =
    let d = distinct n ps h in
    omega (arith, length-le_from_distinct_below (0 ∷ ps) (suc n) (apart_from 0 ps d.0, d.1) (λ q e. ⊎_elim (λ s. omega (arith, eqb-true q 0 s)) (λ s. omega (arith, d.2 q s)) (or_cases (eqb q 0) (list_any (eqb q) ps) e)))

first_some : (m : List ℕ) {p : ℕ} {ps : List ℕ} → Ends m p ps → 0 < p
first_some m (last {p} h e) = pool_some (length m / 516) p (page_in m p h)
first_some m (more {p} h e r) = pool_some (length m / 516) p (page_in m p h)

-- each chain that ends is met whole
met_of : (m : List ℕ) {p : ℕ} {ps : List ℕ} → Ends m p ps → (k : ℕ) → length ps ≤ k → pages_met m k p ≡ map Some ps
met_of m (last h e) zero l = absurd (omega arith)
met_of m (last {p} h e) (suc k) l = let z = met_none m k in let y = none_zero m in grind (arith, nat_tests)
met_of m (more h e r) zero l = absurd (omega arith)
met_of m (more {p} {ps} h e r) (suc k) l = let i = met_of m r k (omega arith) in let y = none_zero m in grind (arith, nat_tests)

all_met : (m : List ℕ) {p : ℕ} {ps : List ℕ} → Ends m p ps → pages_met m (length m / 516) p ≡ map Some ps
all_met m {p} {ps} r = met_of m r (length m / 516) (once_few (length m / 516) ps (ends_once m r))

pub ends_found : (m : List ℕ) {p : ℕ} {ps : List ℕ} → Ends m p ps → walk m (length m / 516) p ≡ Some ps
ends_found m {p} {ps} r =
    let w = walk-met m (length m / 516) p in
    let f = first_some m r in
    let a = ap all_there (all_met m r) ∙ all_there-some ps in
    grind (arith, nat_tests)

found_by : (m : List ℕ) (first : ℕ) (w : Bool) (o : Option (List ℕ)) → whole 516 (length m) ≡ w → walk m (length m / 516) first ≡ o
    → ◌≡◌ {A = Answer} (cond w (cond (is_some o) (Ok tt) (Err (fault_of BrokenChain))) (Err (fault_of UnfitMemory))) (Ok tt) → (ps : List ℕ) × (Ends m first ps × (pages_from m first ≡ ps) × (once (length m / 516) ps ≡ true))
found_by m first true (Some ps) hw ho e = let r = walk_ends m (length m / 516) first ps ho in (ps, (r, search (rules, tests), ends_once m r))
found_by m first true None hw ho e = absurd (cc)
found_by m first false o hw ho e = absurd (cc)

pub look_finds : (m : List ℕ) (first : ℕ) → Looked m first (chain_look m first)
look_finds m first = record {
  accepts = λ ps w r. let e = ends_found m r in (search (rules, tests), search (rules, tests));
  only = found_by m first (whole 516 (length m)) (walk m (length m / 516) first) refl refl;
}

pub look_means : (m : List ℕ) (first : ℕ) (r : Answer) → r ≡ chain_look m first → Looked m first r
look_means m first r e = rw e (look_finds m first)

-- no more pages than an area may have, each of the pool, none twice
pub pages_indexed : (m : List ℕ) (first : ℕ) → indexed (length m) (pages_from m first) ≡ true
pages_indexed m first = by (whole 516 (length m)) (walk m (length m / 516) first) refl refl
  where
    by : (w : Bool) (o : Option (List ℕ)) → whole 516 (length m) ≡ w → walk m (length m / 516) first ≡ o → indexed (length m) (cond w (unwrap_or o []) []) ≡ true
    by true (Some ps) h r =
        let e = ends_once m (walk_ends m (length m / 516) first ps r) in
        let f : length ps ≤ 65535 = omega (arith, once_few (length m / 516) ps e, (whole_means 516 (length m) h).few) in
        search (rules, tests)
    by true None h r = refl
    by false o h r = refl

-- a listed chain is the chain
met_leads : (m : List ℕ) (n p : ℕ) (ps : List ℕ) → pages_met m n p ≡ map Some ps → leads_through m p ps ≡ true
met_leads m zero p [] h = grind (arith, nat_tests)
met_leads m (suc n) p [] h = grind (arith, nat_tests)
met_leads m zero p (q ∷ ps) h = grind (arith, nat_tests)
met_leads m (suc n) p (q ∷ ps) h = let r = met_leads m n (next_of m p) ps in grind (arith, nat_tests)

leads_met : (m : List ℕ) (p : ℕ) (ps : List ℕ) → leads_through m p ps ≡ true → pages_met m (length m / 516) p ≡ map Some ps
leads_met m p [] h = ap (pages_met m (length m / 516)) (eqb-true p 0 h) ∙ met_none m (length m / 516)
leads_met m p (q ∷ ps) h = all_met m (leads_ends m p q ps h)

pub Decides-leads : (m : List ℕ) (p : ℕ) (ps : List ℕ) → Decides (leads_through m p ps) (pages_met m (length m / 516) p ≡ map Some ps)
Decides-leads m p ps = (leads_met m p ps, met_leads m (length m / 516) p ps)

fit_pages : (m : List ℕ) (size first : ℕ) (pages : List ℕ) → fits_pool m size first pages ≡ true → (size ≡ length m) × (pages_from m first ≡ pages)
fit_pages m size first pages h =
    let w : whole 516 (length m) ≡ true = search (rules, tests) in
    let l : leads_through m first pages ≡ true = search (rules, tests) in
    (search (rules, tests), pages_from-met m first pages {os = []} w (leads_met m first pages l ∙ sym (append-nil (map Some pages))) refl ∙ append-nil pages)

pages_fit : (m : List ℕ) (size first p : ℕ) (ps : List ℕ) → size ≡ length m → pages_from m first ≡ p ∷ ps → fits_pool m size first (p ∷ ps) ≡ true
pages_fit m size first p ps s e =
    let w : whole 516 (length m) ≡ true = grind (arith, nat_tests) in
    let o : walk m (length m / 516) first ≡ Some (p ∷ ps) = grind (arith, nat_tests) in
    let l = walk_leads m (length m / 516) first (p ∷ ps) o in
    search (rules, tests)

used_same : (m : List ℕ) (size first : ℕ) (pages : List ℕ) → size ≡ length m → pages_from m first ≡ pages → used_pages (fits_pool m size first pages) size (length m) pages ≡ pages
used_same m size first [] s e = search (rules, tests)
used_same m size first (p ∷ ps) s e = let f = pages_fit m size first p ps s e in search (rules, tests)

-- an area made with an index
pub area_made : (m : List ℕ) (ch : Chain) (fits : Bool) → fits ≡ fits_pool m ch.size ch.first (vec_items ch.pages)
    → Made ch m (row_of m (used_pages fits ch.size (length m) (vec_items ch.pages)))
area_made m ch fits f =
    let size = ch.size in
    let first = ch.first in
    let pages = vec_items ch.pages in
    record {
      same = λ l. let u = used_same m size first pages l.0 l.1 in cc;
      other = λ ne. ⊎_elim
          (λ t. absurd (ne (fit_pages m size first pages t)))
          (λ t. ap (row_of m) (cond-false (fits && eqb size (length m)) pages [] (let g = f ∙ t in search (rules, tests))))
          (cases_Bool (fits_pool m size first pages));
    }
