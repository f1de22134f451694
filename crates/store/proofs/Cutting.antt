-- A buffer that is cut into segments from its front. Assumes nothing.
use Rattle.std.proofs.Common.{◌≡◌, ℕ, ◌+◌, ◌-◌, ◌*◌, ◌≤◌, List, ◌++◌, length, take, drop, sym, ap, ◌∙◌, arith, length-append, length-drop}
use Rattle.std.proofs.lemmas.List.{take_at, drop_at, drop-drop}
use Rattle.store.specs.Rows.{bytes_from}

-- what is left of it behind the first n segments
pub record IsCut (buffer rest : List ℕ) (size n : ℕ) : Type 0 where
  pub by : size ≡ 512
  pub left : rest ≡ drop (n * 512) buffer
  pub inside : n * 512 ≤ length buffer

-- the part that comes next is segment i, and the cut goes on behind it
pub record CutsNext (buffer rest part : List ℕ) (size n i : ℕ) : Type 0 where
  pub onward : IsCut buffer rest size (n + 1)
  pub there : i * 512 + 512 ≤ length buffer
  pub is : part ≡ bytes_from buffer (i * 512)
  pub long : length part ≡ 512

pub cut_more : (buffer rest rest' part : List ℕ) (size size' n i : ℕ) → IsCut buffer rest size n → i ≡ n → size' ≡ size → rest ≡ part ++ rest' → length part ≡ size → CutsNext buffer rest' part size' n i
cut_more buffer rest rest' part size size' n i c z s e l =
    let p : part ++ rest' ≡ drop (n * 512) buffer = sym e ∙ c.left in
    let k : length part ≡ 512 = l ∙ c.by in
    let m : 512 + length rest' ≡ length buffer - n * 512 = omega (arith, ap length p, length-append part rest', length-drop (n * 512) buffer) in
    let next : n * 512 + 512 ≡ (n + 1) * 512 = omega arith in
    let width : 512 ≡ i * 512 + 512 - i * 512 = omega arith in
    record {
      onward = record {
        by = s ∙ c.by;
        left = sym (drop_at part rest' 512 k) ∙ ap (drop 512) p ∙ drop-drop 512 (n * 512) buffer ∙ ap (λ j. drop j buffer) next;
        inside = omega (arith, c.inside);
      };
      there = omega (arith, c.inside);
      is = sym (take_at part rest' 512 k) ∙ ap (take 512) p ∙ ap (λ j. take 512 (drop (j * 512) buffer)) (sym z) ∙ ap (λ j. take j (drop (i * 512) buffer)) width;
      long = k;
    }
