-- The place of a key among keys that ascend, from the three laws. Assumes nothing.
use Rattle.std.proofs.Common.{◌≡◌, ℕ, suc, ◌+◌, ◌-◌, ◌*◌, ◌/◌, ◌<◌, ◌≤◌, Bool, true, false, List, length, get_or, drop, All, Ordering, Less, Equal, Greater, Result, Ok, Err, OnErr, sym, refl, ap, ◌∙◌, subst, ⊎_elim, true≢false, mul-le-mul_right, suc-mul, div-mul-le_self, arith, length-drop, length-take, w8, Fits}
use Rattle.std.proofs.lemmas.List.Elements.{All-from_get_or, All-take, All-drop}
use Rattle.std.proofs.lemmas.Bool.{cases_lt, false_from_ne_true, true_from_ne_false}
use Rattle.std.specs.Ordering.{is_lt, is_le, ordering_reverse}
use Rattle.kinds.specs.Laws.{Kind, Key, Sizes, Laws}
use Rattle.kinds.specs.Search.{key_at, key_in, held_in, Keyed, Ascends, KeysAscend, Turn, key_below, key_not_above, below, FirstKeyNotBelow, LastKeyNotAbove, FirstNotBelow, place_of, Looked, Found}

-- ---- where keys lie

-- what is known of a slice of bytes
pub bytes : (xs : List ℕ) → ((i : ℕ) → Fits w8 (get_or xs i 0)) → All (λ x. x < 256) xs
bytes xs f = All-from_get_or (λ x. x < 256) xs 0 (λ i h. (f i).fits)

-- record i begins and ends within a block that holds more than i
pub record_inside : (i size p len : ℕ) → i < len / size → p ≤ size → i * size + p ≤ len
record_inside i size p len h k =
    let m : suc i * size ≤ len / size * size = mul-le-mul_right size h in
    omega (arith, m, suc-mul i size, div-mul-le_self len size)

pub keyed_at : (kind : Kind) (size : ℕ) (block : List ℕ) → All (λ x. x < 256) block → kind.key_length ≤ size → Keyed kind (key_at kind size block) (length block / size)
keyed_at kind size block h k i l =
    let e = record_inside i size kind.key_length (length block) l k in
    (simp (length-take, length-drop) (omega (arith, e)), All-take (λ x. x < 256) kind.key_length (drop (i * size) block) (All-drop (λ x. x < 256) (i * size) block h))

-- ---- what an answer says

less_from : (o : Ordering) → is_lt o ≡ true → o ≡ Less
less_from Less e = refl
less_from Equal e = cc
less_from Greater e = cc

greater_from : (o : Ordering) → is_le o ≡ false → o ≡ Greater
greater_from Less e = cc
greater_from Equal e = cc
greater_from Greater e = refl

-- ---- a test that is true up to some place, and false from there on

module _ (test : ℕ → Bool) (n t : ℕ) (falls : (i j : ℕ) → i < j → j < n → test j ≡ true → test i ≡ true) (turn : Turn test n t) where
  true_before : (i : ℕ) → i < t → test i ≡ true
  true_before i l =
      let e : suc (t - 1) ≡ t = omega arith in
      let last = turn.before (t - 1) e in
      ⊎_elim
      (λ (k : i < t - 1). falls i (t - 1) k (omega (arith, turn.within)) last)
      (λ (k : t - 1 ≤ i). let z : t - 1 ≡ i = omega arith in subst (λ j. test j ≡ true) z last)
      (cases_lt i (t - 1))

  false_behind : (i : ℕ) → t ≤ i → i < n → test i ≡ false
  false_behind i l h =
      let here = turn.behind (omega arith) in
      ⊎_elim
      (λ (k : t < i). false_from_ne_true (test i) (λ e. true≢false (sym (falls t i k h e) ∙ here)))
      (λ (k : i ≤ t). let z : t ≡ i = omega arith in subst (λ j. test j ≡ false) z here)
      (cases_lt t i)

-- ---- any row of keys that ascend

module _ (kind : Kind) (laws : Laws kind) (key : ℕ → List ℕ) (n : ℕ) (keyed : Keyed kind key n) (up : Ascends kind key n) (k : List ℕ) (sought : Key kind k) where
  below_falls : (i j : ℕ) → i < j → j < n → key_below kind key k j ≡ true → key_below kind key k i ≡ true
  below_falls i j l h e =
      ap is_lt (laws.trans (key i) (key j) k (keyed i (omega arith)) (keyed j h) sought (up i j l h) (less_from (kind.order (key j) k) e))

  not_above_falls : (i j : ℕ) → i < j → j < n → key_not_above kind key k j ≡ true → key_not_above kind key k i ≡ true
  not_above_falls i j l h e =
      let a = keyed i (omega arith) in
      let b = keyed j h in
      true_from_ne_false (key_not_above kind key k i) (λ f.
      let back : kind.order k (key i) ≡ Less = laws.flip (key i) k a sought ∙ ap ordering_reverse (greater_from (kind.order (key i) k) f) in
      let on : kind.order (key j) k ≡ Greater = laws.flip k (key j) sought b ∙ ap ordering_reverse (laws.trans k (key i) (key j) sought a b back (up i j l h)) in
      true≢false (sym e ∙ ap is_le on))

  pub first_not_below : (t : ℕ) → Turn (key_below kind key k) n t → FirstKeyNotBelow kind key n k t
  first_not_below t turn = record {
    within = turn.within;
    before = λ i l. less_from (kind.order (key i) k) (true_before (key_below kind key k) n t below_falls turn i l);
    behind = λ i l h e. true≢false (sym (ap is_lt e) ∙ false_behind (key_below kind key k) n t below_falls turn i l h);
  }

  pub last_not_above : (t r : ℕ) → Turn (key_not_above kind key k) n t → r ≡ t - 1 → LastKeyNotAbove kind key n k r
  last_not_above t r turn e = record {
    within = omega (arith, turn.within);
    upto = λ i some l g. true≢false (sym (true_before (key_not_above kind key k) n t not_above_falls turn i (omega arith)) ∙ ap is_le g);
    behind = λ i l h. greater_from (kind.order (key i) k) (false_behind (key_not_above kind key k) n t not_above_falls turn i (omega arith) h);
  }

-- ---- a block

module _ (kind : Kind) (laws : Laws kind) (block k : List ℕ) (keyed : Keyed kind (key_in kind block) (held_in kind block)) (up : KeysAscend kind block) (sought : Key kind k) where
  first_in : (t : ℕ) → Turn (below kind block k) (held_in kind block) t → FirstNotBelow kind block k t
  first_in = first_not_below kind laws (key_in kind block) (held_in kind block) keyed up k sought

  same_pins : (i : ℕ) → i < held_in kind block → (kind.order (key_in kind block i) k ≡ Equal → key_in kind block i ≡ k) × (key_in kind block i ≡ k → kind.order (key_in kind block i) k ≡ Equal)
  same_pins i l = laws.same (key_in kind block i) k (keyed i l) sought

  -- a key that is there is the first that is not below itself
  elsewhere : (at : ℕ) → FirstNotBelow kind block k at → (i : ℕ) → i < held_in kind block → key_in kind block i ≡ k → (at < held_in kind block) × (kind.order (key_in kind block at) k ≡ Equal)
  elsewhere at first i l e =
      let level : kind.order (key_in kind block i) k ≡ Equal = (same_pins i l).1 e in
      ⊎_elim
      (λ (h : i < at). absurd (true≢false (sym (ap is_lt (first.before i h)) ∙ ap is_lt level)))
      (λ (h : at ≤ i). ⊎_elim
      (λ (m : at < i). absurd (first.behind at (omega arith) (omega arith) (subst (λ x. kind.order (key_in kind block at) x ≡ Less) e (up at i m l))))
      (λ (m : i ≤ at). let z : i ≡ at = omega arith in (omega arith, subst (λ j. kind.order (key_in kind block j) k ≡ Equal) z level))
      (cases_lt at i))
      (cases_lt i at)

  nowhere : (r : Result ℕ ℕ) → Looked kind block k r → OnErr r ((i : ℕ) → i < held_in kind block → key_in kind block i ≡ k → ⊥)
  nowhere (Ok at) looked = tt
  nowhere (Err at) looked = λ i l e. true≢false (sym (looked.same.1 (elsewhere at (first_in at looked.turn) i l e)))

  found : (r : Result ℕ ℕ) → Looked kind block k r → Found kind block k r
  found r looked = record {
    first = first_in (place_of r) looked.turn;
    here = (λ t. let h = looked.same.0 t in (h.0, (same_pins (place_of r) h.0).0 h.1), λ h. looked.same.1 (h.0, (same_pins (place_of r) h.0).1 h.1));
    nowhere = nowhere r looked;
  }

-- what a search of a block found
pub found_in : (kind : Kind) → Sizes kind → Laws kind → (block k : List ℕ) → ((i : ℕ) → Fits w8 (get_or block i 0)) → ((i : ℕ) → Fits w8 (get_or k i 0))
    → (r : Result ℕ ℕ) → Looked kind block k r → length k ≡ kind.key_length → KeysAscend kind block → Found kind block k r
found_in kind sizes laws block k fb fk r looked e up =
    let s : kind.key_length ≤ kind.record_length + 2 = omega (arith, sizes.inside) in
    found kind laws block k (keyed_at kind (kind.record_length + 2) block (bytes block fb) s) up (e, bytes k fk) r looked
