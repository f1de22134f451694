-- Reading and writing segments that lie side by side. Assumes nothing.
use Rattle.std.proofs.Common.{◌≡◌, ℕ, ◌+◌, ◌*◌, ◌/◌, ◌<◌, ◌≤◌, true, ltb, List, [], ◌∷◌, length, get_or, set, Some, None, Option, is_some, sym, ap, ◌∙◌, subst, inl, inr, ⊎_elim, arith}
use borrow.Rule.Slice.PartMut.{put_mid}
use Rattle.std.specs.Prelude.{MatchOption, IfSome}
use Rattle.std.proofs.lemmas.Grind.{common_steps}
use Rattle.std.proofs.lemmas.Bool.Decides.{nat_tests}
use Rattle.std.proofs.lemmas.Bool.{cond-true, cases_eq, cases_lt}
use Rattle.std.proofs.lemmas.List.{same_lists, length-set, get_or-set_same, get_or-set_other}
use Rattle.std.proofs.lemmas.List.FromFn.{length-map-range_with_len, get_or-map-range_with_len}
use Rattle.store.specs.Rows.{Segment, good, bad, bytes_from}
use Rattle.areas.specs.Cuts.{Placed}
use Rattle.areas.specs.PlainRows.{whole, parts, plain_row, plain_frame}
use Rattle.areas.proofs.Memory.{length-put_mid, apart, written_here}

plain_count : (m : List ℕ) → whole 512 (length m) ≡ true → length (plain_row m) ≡ length m / 512
plain_count m h = grind (arith, nat_tests, length-map-range_with_len)

pub plain_at : (m : List ℕ) (k : ℕ) (d : Segment) → whole 512 (length m) ≡ true → k < length m / 512 → get_or (plain_row m) k d ≡ good (bytes_from m (k * 512))
plain_at m k d h l = grind (arith, nat_tests, get_or-map-range_with_len)

plain_none : (m : List ℕ) (k : ℕ) → parts 512 (length m) ≤ k → get_or (plain_row m) k bad ≡ bad
plain_none m k l = grind (arith, nat_tests, common_steps, length-map-range_with_len)

module _ (m ys : List ℕ) (k : ℕ) (h : whole 512 (length m) ≡ true) (l : k < length m / 512) (n : length ys ≡ 512) where
  long : length (put_mid (k * 512) 512 m ys) ≡ length m
  long = length-put_mid (k * 512) 512 m ys (omega arith) n

  still : whole 512 (length (put_mid (k * 512) 512 m ys)) ≡ true
  still = ap (whole 512) long ∙ h

  plain_written : plain_row (put_mid (k * 512) 512 m ys) ≡ set (plain_row m) k (good ys)
  plain_written =
      let p = put_mid (k * 512) 512 m ys in
      let f : k * 512 + 512 ≤ length m = omega arith in
      let c : length (plain_row p) ≡ length m / 512 = plain_count p still ∙ ap (λ n. n / 512) long in
      let n' = plain_count m h in
      same_lists _ _ (c ∙ sym (length-set (plain_row m) k (good ys) ∙ n'))
      (λ j d lt.
      let at : j < length m / 512 = omega (arith, c) in
      plain_at p j d still (omega (arith, long))
      ∙ ⊎_elim
      (λ (same : j ≡ k). ap (λ i. good (bytes_from p (i * 512))) same ∙ ap good (written_here (k * 512) m ys f n)
      ∙ sym (ap (λ i. get_or (set (plain_row m) k (good ys)) i d) same ∙ get_or-set_same (plain_row m) k (good ys) d (omega arith)))
      (λ other. ap good (apart (k * 512) 512 (j * 512) 512 m ys f n (⊎_elim (λ (b : j < k). inr (omega arith)) (λ (b : k ≤ j). inl (omega arith)) (cases_lt j k)))
      ∙ sym (get_or-set_other (plain_row m) k j (good ys) d other ∙ plain_at m j d h at))
      (cases_eq j k))

  plain_framed : plain_frame (put_mid (k * 512) 512 m ys) ≡ plain_frame m
  plain_framed = cond-true (whole 512 (length (put_mid (k * 512) 512 m ys))) _ _ still ∙ sym (cond-true (whole 512 (length m)) [] (m ∷ []) h)

plain_placed : (m : List ℕ) (k : ℕ) → k < parts 512 (length m) → Placed plain_row plain_frame m k (k * 512)
plain_placed m k l =
    let h : whole 512 (length m) ≡ true = grind (arith, nat_tests) in
    let k< : k < length m / 512 = grind (arith, nat_tests) in
    record {
      inside = omega arith;
      holds = plain_at m k bad h k<;
      written = λ ys n. plain_written m ys k h k< n;
      framed = λ ys n. plain_framed m ys k h k< n;
    }

pub plain_start : (m : List ℕ) (k : ℕ) (o : Option ℕ) → is_some o ≡ ltb k (parts 512 (length m)) → IfSome o (λ s. s ≡ k * 512)
    → MatchOption o (get_or (plain_row m) k bad ≡ bad) (Placed plain_row plain_frame m k)
plain_start m k None v h = plain_none m k (grind (arith, nat_tests))
plain_start m k (Some s) v h = subst (λ x. Placed plain_row plain_frame m k x) (sym h) (plain_placed m k (grind (arith, nat_tests)))
