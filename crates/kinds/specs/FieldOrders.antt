-- Each order by fields that take up the whole key keeps the three laws. Assumes nothing.
use Rattle.std.specs.Prelude.{◌≡◌, ℕ, ◌+◌, ◌-◌, ◌<◌, ◌≤◌, Bool, true, false, if◌then◌else◌, List, [], ◌∷◌, length, drop, slice_index, refl}
use Rattle.std.specs.declared.cmp.Ordering.TheVariants.{Less, Equal}
use Rattle.std.specs.declared.cmp.Ordering.{Ordering}
use Rattle.std.specs.Ordering.{ordering_reverse}
use Rattle.std.proofs.Common.{⊎_elim, sym, ap, subst, ◌∙◌, arith}
use Rattle.std.specs.Cmp.{IsTotalOrder, nat_cmp_total, int_cmp_total, on_total, then_total, back_total, tied_itself}
use Rattle.std.proofs.lemmas.List.{same_lists, get_or_default, get_or-drop}
use Rattle.std.proofs.lemmas.List.Elements.{All-drop}
use Rattle.std.proofs.lemmas.Bool.{cases_lt}
use Rattle.kinds.specs.declared.fields.Field.{Field}
use Rattle.kinds.specs.Fields.{signed_of, by_bytes, by_signed, directed, by_field, by_fields, width_of}
use Rattle.kinds.specs.Kinds.{of_fields}
use Rattle.kinds.specs.Laws.{Order, Laws}
use Rattle.kinds.specs.Weights.{weighed}
use Rattle.kinds.specs.Lexical.{lex, bytes_lex, bytes_total, lex_pins, both_level}
use Rattle.kinds.specs.Signs.{Bytes, signed_lex, weighed_pins}

-- ---- one field

by_sign : (s : Bool) (a b : List ℕ) → Bytes a → Bytes b → (n : ℕ) → (if s then by_signed n a b else by_bytes n a b) ≡ lex (weighed s a) (weighed s b) n
by_sign true a b ha hb n = signed_lex a b ha hb n
by_sign false a b ha hb n = bytes_lex a b n

-- a field's order is that of its weights
pub field_lex : (f : Field) (a b : List ℕ) → Bytes a → Bytes b → by_field f a b ≡ directed f.descending (lex (weighed f.signed a) (weighed f.signed b) f.width)
field_lex f a b ha hb = ap (directed f.descending) (by_sign f.signed a b ha hb f.width)

by_sign_total : (s : Bool) (n : ℕ) → IsTotalOrder (λ a b. if s then by_signed n a b else by_bytes n a b)
by_sign_total true n = on_total (signed_of n) int_cmp_total
by_sign_total false n = bytes_total n

pub back : {K : Type 0} (c : K → K → Ordering) → IsTotalOrder c → (x y : K) → ordering_reverse (c x y) ≡ Less → c y x ≡ Less
back c total x y above = total.antisymm y x ∙ above

pub alike_right : {K : Type 0} (c : K → K → Ordering) → IsTotalOrder c → (x y z : K) → c x y ≡ Equal → c z x ≡ c z y
alike_right c total x y z level = total.antisymm z x ∙ ap ordering_reverse (total.congr x y z level) ∙ sym (total.antisymm z y)

pub either_way : {K : Type 0} (c : K → K → Ordering) (down : Bool) → IsTotalOrder c → IsTotalOrder (λ a b. directed down (c a b))
either_way c true s = subst IsTotalOrder (λ i a b. s.antisymm b a i) (back_total s)
either_way c false s = s

field_total : (f : Field) → IsTotalOrder (by_field f)
field_total f = either_way (λ a b. if f.signed then by_signed f.width a b else by_bytes f.width a b) f.descending (by_sign_total f.signed f.width)

-- keys that the order calls the same agree in their first n bytes
abbrev Pins : ℕ → Order → Type 0
Pins n order = (a b : List ℕ) → Bytes a → Bytes b → order a b ≡ Equal → (i : ℕ) → i < n → slice_index a i ≡ slice_index b i

pub level_directed : (down : Bool) → Equal ≡ directed down Equal
level_directed true = refl
level_directed false = refl

pub level_either_way : (down : Bool) (o : Ordering) → directed down o ≡ Equal → o ≡ Equal
level_either_way down o level = grind arith

field_pins : (f : Field) → Pins f.width (by_field f)
field_pins f a b ha hb e i l =
    let u = weighed f.signed a in
    let v = weighed f.signed b in
    let level = level_either_way f.descending (lex u v f.width) (sym (field_lex f a b ha hb) ∙ e) in
    weighed_pins f.signed a b ha hb i (lex_pins u v f.width i level l)

-- ---- one behind another

fields_total : (fs : List Field) → IsTotalOrder (by_fields fs)
fields_total [] = on_total (λ _. 0) nat_cmp_total
fields_total (f ∷ fs) = then_total (field_total f) (on_total (drop f.width) (fields_total fs))

fields_pin : (fs : List Field) → Pins (width_of fs) (by_fields fs)
fields_pin [] a b ha hb e i l = absurd (omega arith)
fields_pin (f ∷ fs) a b ha hb e i l =
    let w = f.width in
    let two = both_level (by_field f a b) (by_fields fs (drop w a) (drop w b)) e in
    ⊎_elim
    (λ (k : i < w). field_pins f a b ha hb two.0 i k)
    (λ (k : w ≤ i).
    let z : w + (i - w) ≡ i = omega arith in
    let same = fields_pin fs (drop w a) (drop w b) (All-drop (λ x. x < 256) w a ha) (All-drop (λ x. x < 256) w b hb) two.1 (i - w) (omega arith) in
    subst (λ j. slice_index a j ≡ slice_index b j) z (sym (get_or-drop w a (i - w) 0) ∙ same ∙ get_or-drop w b (i - w) 0))
    (cases_lt i w)

-- each order by fields is lawful
pub fields_lawful : {number long : ℕ} (fs : List Field) → Laws (of_fields number long fs)
fields_lawful fs =
    let s = fields_total fs in
    record {
      same = λ a b ha hb. (
        λ e. same_lists a b (ha.0 ∙ sym hb.0) (λ k d h.
            let l : k < width_of fs = omega (arith, ha.0) in
            let m : k < length b = omega (arith, ha.0, hb.0) in
            get_or_default a k d 0 h ∙ fields_pin fs a b ha.1 hb.1 e k l ∙ get_or_default b k 0 d m),
        λ e. subst (λ c. by_fields fs a c ≡ Equal) e (tied_itself s a),
      );
      flip = λ a b ha hb. s.antisymm b a;
      trans = λ a b c ha hb hc. s.trans a b c;
    }
