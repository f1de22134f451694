-- A numeral has no stroke in it, so the first stroke of a text parts its two numerals. Assumes nothing.
use Rattle.std.proofs.Common.{◌≡◌, ◌≢◌, ◌↔◌, ℕ, zero, suc, ◌<◌, Bool, true, false, cond, eqb, Option, None, Some, Bor, List, [], ◌∷◌, ◌++◌, length, get_or, take, drop, sym, ap, ◌∙◌, arith, w16, w32}
use Rattle.std.proofs.lemmas.Str.Parse.{digit_at}
use Rattle.std.proofs.lemmas.Str.Pattern.{IsSplitOnceResult, finds_char_after, split_after, split_parts}
use Rattle.std.specs.Str.{NoCharPasses}
use Rattle.std.specs.Str.Pattern.{HasCharAt}
use Rattle.std.specs.Str.Parse.{AllDigits, IsNumeral, without_leading_sign}
use Rattle.input.specs.declared.names.GyleName.{GyleName}
use Rattle.input.specs.Names.{Writes, Spelled, SpellsNone}

-- behind its first byte, which may be a sign, a numeral has only digits
digits_behind : (c : ℕ) (cs : List ℕ) (minus plus : Bool) → IsNumeral 10 (cond minus (drop 1 (c ∷ cs)) (drop (cond plus 1 0) (c ∷ cs))) → AllDigits 10 cs
digits_behind c cs true plus h = h.1
digits_behind c cs false true h = h.1
digits_behind c cs false false h = h.1.1

no_stroke : (bs : List ℕ) → IsNumeral 10 (without_leading_sign bs) → (i : ℕ) → i < length bs → get_or bs i 0 ≢ 47
no_stroke [] h i l e = omega arith
no_stroke (c ∷ cs) h zero l e = let digit = rw e at h in omega (arith, digit.1.0)
no_stroke (c ∷ cs) h (suc i) l e = let digit = digit_at cs i (digits_behind c cs (eqb c 45) (eqb c 43) h) (omega arith) in omega (arith, e, digit)

-- a text that is parted at its first stroke is parted into the two numerals
pub parted : (text front back : List ℕ) → text ≡ front ++ 47 ∷ back → IsNumeral 10 (without_leading_sign front)
    → (i j : ℕ) → NoCharPasses (λ d. eqb d 47) (take i text) → HasCharAt 47 text i j → (take i text ≡ front) × (drop j text ≡ back)
parted text front back whole numeral i j none at = finds_char_after 47 text front back (Some (i, j)) (none, at) (omega arith) whole (no_stroke front numeral)

-- such a text does not begin with the letter s
pub no_word : (text front back : List ℕ) → text ≡ front ++ 47 ∷ back → IsNumeral 10 (without_leading_sign front) → get_or text 0 0 ≢ 115
no_word text [] back whole numeral e = omega (arith, ap (λ t. get_or t 0 0) whole, e)
no_word text (c ∷ cs) back whole numeral e =
    let letter : c ≡ 115 = sym (ap (λ t. get_or t 0 0) whole) ∙ e in
    let digit = rw letter at numeral in
    omega (arith, digit.1.0)

module _ (text : List ℕ) (r : Option (Bor (List ℕ) × Bor (List ℕ))) (split : IsSplitOnceResult 47 text r) where
  -- a text with no stroke spells no gyle
  pub spells_none : r ≡ None → SpellsNone text
  spells_none is name s = rw is at (split_after 47 text s.front s.back r split (omega arith) s.whole (no_stroke s.front s.year.numeral))

  -- and one that has a stroke just that whose year and number its two parts write
  pub spells : (x : Bor (List ℕ) × Bor (List ℕ)) → r ≡ Some x → (name : GyleName) → Spelled text name ↔ (Writes w16 x.0.now name.year × Writes w32 x.1.now name.number)
  spells x is name = (
    λ s.
        let same = rw is at (split_after 47 text s.front s.back r split (omega arith) s.whole (no_stroke s.front s.year.numeral)) in
        rw (same.0, same.1) (s.year, s.number),
    λ w.
        let whole = rw is at (split_parts 47 text r split (omega arith)) in
        record { front = x.0.now; back = x.1.now; whole = whole.0; year = w.0; number = w.1 },
  )
