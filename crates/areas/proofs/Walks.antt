-- Chains of pages: what a walk meets, and that no page stands twice in one that ends. Assumes nothing.
use Rattle.std.proofs.Common.{◌≡◌, ℕ, zero, suc, ◌/◌, ◌<◌, ◌≤◌, ◌≢◌, true, false, cond, eqb, List, [], ◌∷◌, ◌++◌, length, map, get_or, is_some, Some, None, Option, unwrap_or, sym, refl, ap, ◌∙◌, ⊎_elim, arith, rules, append_assoc, ◌-◌, ◌+◌}
use Rattle.std.specs.List.{list_all}
use Rattle.std.specs.Option.{option_map}
use Rattle.std.proofs.lemmas.Iterator.Adapters.{option_map_id}
use Rattle.std.proofs.lemmas.Bool.{cases_Bool, eqb-true, or_cases}
use Rattle.std.proofs.lemmas.Bool.Decides.{nat_tests}
use borrow.Author.Tests.{tests}
use Rattle.areas.specs.PlainRows.{whole}
use Rattle.areas.specs.ChainedRows.{next_of, in_pool, page_ok, Ends, last, more, walk, pages_met, pages_from, has, once, leads_through}

-- what `page_ok` tells
pub page_in : (m : List ℕ) (p : ℕ) → page_ok m p ≡ true → in_pool (length m / 516) p ≡ true
page_in m p h = search (rules, tests)

pub none_zero : (m : List ℕ) → page_ok m 0 ≡ false
none_zero m = refl

pub walk_bad : (m : List ℕ) (n p : ℕ) → page_ok m p ≡ false → walk m n p ≡ None
walk_bad m zero p h = refl
walk_bad m (suc n) p h = search (rules, tests)

-- the values, where each is there
abbrev pub all_there : List (Option ℕ) → Option (List ℕ)
all_there [] = Some []
all_there (None ∷ os) = None
all_there (Some p ∷ os) = option_map (λ ps. p ∷ ps) (all_there os)

pub all_there-append : (ps : List ℕ) (os : List (Option ℕ)) → all_there (map Some ps ++ os) ≡ option_map (λ qs. ps ++ qs) (all_there os)
all_there-append [] os = sym (option_map_id (all_there os))
all_there-append (p ∷ ps) os = rw (all_there-append ps os) (twice (all_there os))
  where
    twice : (o : Option (List ℕ)) → option_map (λ qs. p ∷ qs) (option_map (λ qs. ps ++ qs) o) ≡ option_map (λ qs. p ∷ ps ++ qs) o
    twice None = refl
    twice (Some qs) = refl

pub all_there-some : (ps : List ℕ) → all_there (map Some ps) ≡ Some ps
all_there-some [] = refl
all_there-some (p ∷ ps) = rw (all_there-some ps)

is_some-all_there : (os : List (Option ℕ)) → is_some (all_there os) ≡ list_all is_some os
is_some-all_there [] = refl
is_some-all_there (None ∷ os) = refl
is_some-all_there (Some p ∷ os) = by (all_there os) ∙ is_some-all_there os
  where
    by : (o : Option (List ℕ)) → is_some (option_map (λ ps. p ∷ ps) o) ≡ is_some o
    by None = refl
    by (Some ps) = refl

-- a walk by what it meets
pub met_none : (m : List ℕ) (n : ℕ) → pages_met m n 0 ≡ []
met_none m zero = refl
met_none m (suc n) = refl

pub walk-met : (m : List ℕ) (n p : ℕ) → walk m n p ≡ cond (eqb p 0) None (all_there (pages_met m n p))
walk-met m zero p = search (rules, tests)
walk-met m (suc n) p = let h = walk-met m n (next_of m p) in let z = met_none m n in let y = none_zero m in grind (arith, nat_tests)

pub found-met : (m : List ℕ) (n p : ℕ) → (p ≡ 0 → ⊥) → is_some (walk m n p) ≡ list_all is_some (pages_met m n p)
found-met m n p ne = let h = walk-met m n p in let e = is_some-all_there (pages_met m n p) in search (rules, tests)

-- the pages by what a walk meets: ps so far, and then os
pub pages_from-met : (m : List ℕ) (first : ℕ) (ps : List ℕ) {rest os : List (Option ℕ)} → whole 516 (length m) ≡ true → pages_met m (length m / 516) first ≡ map Some ps ++ rest → rest ≡ os
    → pages_from m first ≡ unwrap_or (option_map (λ qs. ps ++ qs) (all_there os)) []
pages_from-met m first ps {rest} {os} w h e =
    let t = walk-met m (length m / 516) first in
    let z = met_none m (length m / 516) in
    let a : all_there (pages_met m (length m / 516) first) ≡ option_map (λ qs. ps ++ qs) (all_there os) = ap all_there (h ∙ ap (λ r. map Some ps ++ r) e) ∙ all_there-append ps os in
    grind (arith, nat_tests)

-- a walk that ends is a chain
pub leads_ends : (m : List ℕ) (page p : ℕ) (ps : List ℕ) → leads_through m page (p ∷ ps) ≡ true → Ends m page (p ∷ ps)
leads_ends m page p [] h =
    let e : p ≡ page = search (rules, tests) in
    let k : page_ok m page ≡ true = search (rules, tests) in
    let z : next_of m page ≡ 0 = search (rules, tests) in
    rw e (last k z)
leads_ends m page p (q ∷ qs) h =
    let e : p ≡ page = search (rules, tests) in
    let k : page_ok m page ≡ true = search (rules, tests) in
    let z : next_of m page ≢ 0 = grind (arith, nat_tests) in
    let r : leads_through m (next_of m page) (q ∷ qs) ≡ true = search (rules, tests) in
    rw e (more k z (leads_ends m (next_of m page) q qs r))

pub walk_leads : (m : List ℕ) (n p : ℕ) (ps : List ℕ) → walk m n p ≡ Some ps → leads_through m p ps ≡ true
walk_leads m zero p ps h = absurd (cc)
walk_leads m (suc n) p [] h = grind (arith, nat_tests)
walk_leads m (suc n) p (q ∷ ps) h = let r = walk_leads m n (next_of m p) ps in grind (arith, nat_tests)

pub walk_ends : (m : List ℕ) (n p : ℕ) (ps : List ℕ) → walk m n p ≡ Some ps → Ends m p ps
walk_ends m zero p [] h = absurd (cc)
walk_ends m (suc n) p [] h = grind (arith, nat_tests)
walk_ends m n p (q ∷ ps) h = leads_ends m p q ps (walk_leads m n p (q ∷ ps) h)

-- from one page on there is one chain
ends_one : (m : List ℕ) {p : ℕ} {ps qs : List ℕ} → Ends m p ps → Ends m p qs → ps ≡ qs
ends_one m (last h e) (last k f) = refl
ends_one m (last h e) (more k f r) = absurd (f e)
ends_one m (more h e r) (last k f) = absurd (e f)
ends_one m (more {p} h e r) (more k f s) = ap (λ x. p ∷ x) (ends_one m r s)

-- a page on a chain has a chain that is no longer
ends_at : (m : List ℕ) (q : ℕ) {p : ℕ} {ps : List ℕ} → Ends m p ps → has q ps ≡ true → (qs : List ℕ) × (Ends m q qs × (length qs ≤ length ps))
ends_at m q (last {p} h e) t = let s : q ≡ p = search (rules, tests) in rw s (p ∷ [], (last h e, omega arith))
ends_at m q (more {p} {ps} h e r) t =
    ⊎_elim
    (λ s. let s' = eqb-true q p s in rw s' (p ∷ ps, (more h e r, omega arith)))
    (λ s. let w = ends_at m q r s in (w.0, (w.1.0, omega (arith, w.1.1))))
    (or_cases (eqb q p) (has q ps) t)

-- the first page of a chain does not come again
not_again : (m : List ℕ) {p : ℕ} {ps : List ℕ} → Ends m p (p ∷ ps) → Ends m (next_of m p) ps → has p ps ≡ false
not_again m {p} {ps} all r =
    ⊎_elim
    (λ s. let w = ends_at m p r s in absurd (omega (arith, ap length (ends_one m all w.1.0), w.1.1)))
    (λ s. s)
    (cases_Bool (has p ps))

pub ends_once : (m : List ℕ) {p : ℕ} {ps : List ℕ} → Ends m p ps → once (length m / 516) ps ≡ true
ends_once m (last {p} h e) = let i = page_in m p h in search (rules, tests)
ends_once m (more {p} {ps} h e r) = let i = page_in m p h in let n = not_again m (more h e r) r in let o = ends_once m r in search (rules, tests)

-- no two places of an index hold the same page
pub has_at : (ps : List ℕ) (i : ℕ) → i < length ps → has (get_or ps i 0) ps ≡ true
has_at [] i l = absurd (omega arith)
has_at (p ∷ ps) zero l = search (rules, tests)
has_at (p ∷ ps) (suc i) l = let r = has_at ps i (omega arith) in search (rules, tests)

not_first : (n p : ℕ) (ps : List ℕ) (i : ℕ) → once n (p ∷ ps) ≡ true → i < length ps → p ≡ get_or ps i 0 → ⊥
not_first n p ps i h l e = let a = has_at ps i l in grind (arith, nat_tests)

pub once_apart : (n : ℕ) (ps : List ℕ) (i j : ℕ) → once n ps ≡ true → i < length ps → j < length ps → get_or ps i 0 ≡ get_or ps j 0 → i ≡ j
once_apart n [] i j h l k e = absurd (omega arith)
once_apart n (p ∷ ps) zero zero h l k e = refl
once_apart n (p ∷ ps) zero (suc j) h l k e = absurd (not_first n p ps j h (omega arith) e)
once_apart n (p ∷ ps) (suc i) zero h l k e = absurd (not_first n p ps i h (omega arith) (sym e))
once_apart n (p ∷ ps) (suc i) (suc j) h l k e = ap suc (once_apart n ps i j (search (rules, tests)) (omega arith) (omega arith) e)

-- ---- a walk of which some pages are behind

mapped_push : (xs : List ℕ) (p : ℕ) (o : Option (List ℕ)) → option_map (λ ps. xs ++ ps) (option_map (λ ps. p ∷ ps) o) ≡ option_map (λ ps. (xs ++ p ∷ []) ++ ps) o
mapped_push xs p None = refl
mapped_push xs p (Some ps) = ap Some (sym (append_assoc xs (p ∷ []) ps))

pub chain_step : (m : List ℕ) (n i p q : ℕ) (xs ys : List ℕ) (o : Option (List ℕ)) → i < n → page_ok m p ≡ true → q ≡ next_of m p → (q ≡ 0 → ⊥) → ys ≡ xs ++ p ∷ []
    → option_map (λ ps. xs ++ ps) (walk m (n - i) p) ≡ o → option_map (λ ps. ys ++ ps) (walk m (n - (i + 1)) q) ≡ o
chain_step m n i p q xs ys o l h e z a inv =
    let k : n - i ≡ suc (n - (i + 1)) = omega arith in
    let w : walk m (n - i) p ≡ option_map (λ ps. p ∷ ps) (walk m (n - (i + 1)) q) = rw k (grind (arith, nat_tests)) in
    rw (a) (sym (mapped_push xs p (walk m (n - (i + 1)) q)) ∙ ap (option_map (λ ps. xs ++ ps)) (sym w) ∙ inv)

-- the index made so far, at its last page
pub pages_last : (m : List ℕ) (first i p : ℕ) (xs ys : List ℕ) → whole 516 (length m) ≡ true → i < length m / 516 → page_ok m p ≡ true → next_of m p ≡ 0 → ys ≡ xs ++ p ∷ []
    → option_map (λ ps. xs ++ ps) (walk m (length m / 516 - i) p) ≡ walk m (length m / 516) first → ys ≡ pages_from m first
pages_last m first i p xs ys w l h e a inv =
    let k : length m / 516 - i ≡ suc (length m / 516 - (i + 1)) = omega arith in
    let o : walk m (length m / 516 - i) p ≡ Some (p ∷ []) = rw k (grind (arith, nat_tests)) in
    grind arith
