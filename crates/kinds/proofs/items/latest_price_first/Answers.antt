use Rattle.std.proofs.Common.{◌≡◌, ℕ, List, get_or, take, Equal, sym, ap, ◌∙◌, ap₂}
use Rattle.std.proofs.lemmas.List.{get_or-take}
use Rattle.std.specs.Ordering.{ordering_reverse, ordering_then, int_cmp}
use Rattle.kinds.specs.Fields.{by_bytes}
use Rattle.kinds.specs.Lexical.{bytes_level}
use Rattle.kinds.proofs.items.latest_price_first.Goals as goal

same_code : (a b : List ℕ) → take 8 a ≡ take 8 b → by_bytes 8 a b ≡ Equal
same_code a b e = bytes_level a b 8 (λ i l. sym (get_or-take 8 a i 0 l) ∙ ap (λ k. get_or k i 0) e ∙ get_or-take 8 b i 0 l)

pub returns-clause-order : goal.returns-clause-order
returns-clause-order c a b code x y = ap₂ (λ o p. ordering_then o (ordering_then (ordering_reverse p) Equal)) (same_code a b code) (ap₂ int_cmp x y)
