-- A pool that grows by a page. Assumes nothing.
use Rattle.std.proofs.Common.{refl, length-append, below_more, ◌==◌, w16, Result, Ok, Err, OnOk, is_ok, if◌then◌else◌, ◌≡◌, ℕ, ◌+◌, ◌-◌, ◌*◌, ◌/◌, ◌%◌, ◌<◌, ◌≤◌, List, ◌∷◌, ◌++◌, length, arith}
use Rattle.std.proofs.lemmas.Bool.Decides.{nat_tests}
use Rattle.std.proofs.lemmas.Grind.{common_steps}
use Rattle.std.proofs.lemmas.List.{get_or-append-add}
use Rattle.std.proofs.Math.Seq.{drop-append-add, take-length}
use Rattle.std.specs.Int.{to_be_bytes}
use Rattle.cellar.specs.Pools.{IsPage, zeros, ChainsBackwards}

-- a page stays as it is where more is put behind it
pub page_kept : (pool more : List ℕ) (p next mark : ℕ) (segment : List ℕ) → 0 < p → p * 516 ≤ length pool
    → IsPage pool p next mark segment → IsPage (pool ++ more) p next mark segment
page_kept pool more p next mark segment some within page = record {
  names = grind (arith, common_steps, page.names);
  marked = grind (arith, common_steps, page.marked);
  zero = grind (arith, common_steps, page.zero);
  holds = grind (arith, common_steps, page.holds);
}

-- what two parts put behind a list, the second if there is room for it
pub two_parts : {E : Type 0} (r : Result (Unit {0}) E) (old first second middle new : List ℕ) → middle ≡ old ++ first
    → new ≡ (if is_ok r then middle ++ second else middle) → OnOk r (new ≡ old ++ (first ++ second))
two_parts (Ok _) old first second middle new p q = grind (arith, common_steps)
two_parts (Err _) old first second middle new p q = tt

-- what is put behind k pages is page k + 1
pub page_added : (pool segment : List ℕ) (k next mark : ℕ) → length pool ≡ k * 516 → next < 65536 → length segment ≡ 512
    → IsPage (pool ++ (next / 256 % 256 ∷ next % 256 ∷ mark ∷ 0 ∷ segment)) (k + 1) next mark segment
page_added pool segment k next mark long small full =
    let page : List ℕ = next / 256 % 256 ∷ next % 256 ∷ mark ∷ 0 ∷ segment in
    let byte = λ (i : ℕ). get_or-append-add pool page i 0 in
    let there : (k + 1 - 1) * 516 ≡ length pool = omega arith in
    record {
      names = grind (arith, byte 0, byte 1);
      marked = grind (arith, byte 2);
      zero = grind (arith, byte 3);
      holds =
          let size : length pool + 4 + 512 - (length pool + 4) ≡ length segment = omega arith in
          rw (there, size, drop-append-add, take-length);
    }

-- the next page and the mark of page p
abbrev pub next_at : ℕ → ℕ → ℕ
next_at pages p = if p == pages then 0 else p - 1

abbrev pub mark_at : ℕ → ℕ
mark_at p = if p == 1 then 1 else 0

-- the first pages of a pool that will have so many
pub record ChainsSoFar (pages : ℕ) (pool : List ℕ) (before : ℕ) : Type 0 where
  pub long : length pool ≡ before * 516
  pub each : (p : ℕ) → p < before + 1 → 0 < p → IsPage pool p (next_at pages p) (mark_at p) zeros

-- so long as its next page and mark are the right ones, a further page may be put behind them
pub one_page_more : (pages : ℕ) (pool : List ℕ) (before next mark : ℕ) → ChainsSoFar pages pool before → next < 65536
    → next ≡ next_at pages (before + 1) → mark ≡ mark_at (before + 1)
    → ChainsSoFar pages (pool ++ (to_be_bytes w16 next ++ mark ∷ 0 ∷ zeros)) (before + 1)
one_page_more pages pool before next mark so_far small e f =
    let page : List ℕ = to_be_bytes w16 next ++ mark ∷ 0 ∷ zeros in
    record {
      long = omega (arith, so_far.long, length-append pool page);
      each = below_more _ (before + 1)
          (λ p below some. page_kept pool page p _ _ _ some (omega (arith, so_far.long)) (so_far.each p below some))
          (λ _. rw (← e, ← f) (page_added pool zeros before next mark so_far.long small refl));
    }

-- a pool that has them all chains backwards
pub all_pages : (pages : ℕ) (pool : List ℕ) → ChainsSoFar pages pool pages → ChainsBackwards pool pages
all_pages pages pool so_far = record {
  long = so_far.long;
  first = λ some. grind (arith, nat_tests, so_far.each 1);
  others = λ p above below. grind (arith, nat_tests, so_far.each p);
  last = λ some. grind (arith, nat_tests, so_far.each pages);
}
