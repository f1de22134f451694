-- `eq` of two iterators. Assumes nothing.
use Rattle.std.proofs.Common.{◌≡◌, Bool, true, false, List, length, map, Some, None, Option, sym, refl, ap, ◌∙◌, arith}
use Rattle.std.specs.Bool.{Decides}
use Rattle.std.specs.Option.{MatchOption, IfSome}
use Rattle.std.specs.Iterator.{Yields, ComparesItemsByEq}
use Rattle.std.proofs.lemmas.List.Elements.{same_from_all_zip}
use Rattle.std.proofs.lemmas.List.{get_or_default}
use Rattle.std.proofs.lemmas.Iterator.{YieldsList}
use Rattle.std.proofs.lemmas.Iterator.Consumers.{YieldsList-turn, YieldsList-end}

module _ {A S T : Type 0} {eq : A → A → Bool} (same : (x y : A) → Decides (eq x y) (x ≡ y)) {steps : S → Option A → S → Type 0} {others : T → Option A → T → Type 0} {s : S} {xs ys : List A} (r : Bool) (e : YieldsList steps (λ x. x) s xs) where
  last : (it : T) (cs ds : List A) (o p : Option A) (t u : S) (v w : T) → YieldsList others (λ x. x) it ys → Yields steps s cs t → Yields others it ds v → steps t o u → others v p w → cs ≡ ds
      → MatchOption o (MatchOption p (r ≡ true) (λ _. r ≡ false)) (λ x. (r ≡ false) × IfSome p (λ y. eq x y ≡ false)) → Decides r (xs ≡ ys)
  last it cs ds None None t u v w f yc yd so sp z l =
      let a = YieldsList-end e cs t yc None u refl so in
      let b = YieldsList-end f ds v yd None w refl sp in
      (λ _. sym a.0 ∙ ap (map (λ x. x)) z ∙ b.0, λ _. l)
  last it cs ds None (Some y) t u v w f yc yd so sp z l =
      let a = YieldsList-end e cs t yc None u refl so in
      let b = YieldsList-turn f ds v yd (Some y) w y refl sp in
      (λ h. absurd (cc), λ h. absurd (omega (arith, ap length h, ap length z, a.1, b.0)))
  last it cs ds (Some x) None t u v w f yc yd so sp z l =
      let a = YieldsList-turn e cs t yc (Some x) u x refl so in
      let b = YieldsList-end f ds v yd None w refl sp in
      (λ h. absurd (cc), λ h. absurd (omega (arith, ap length h, ap length z, a.0, b.1)))
  last it cs ds (Some x) (Some y) t u v w f yc yd so sp z l =
      let a = YieldsList-turn e cs t yc (Some x) u x refl so in
      let b = YieldsList-turn f ds v yd (Some y) w y refl sp in
      let d = get_or_default ys (length ds) x y b.0 in
      (λ h. absurd (cc), λ h. let n : eq x y ≡ true = (same x y).1 (let g = ap length z in cc) in absurd (cc))

  -- it tells whether their lists are the same
  pub eq_from_yields_List : {U : Type 0} (becomes : U → T → Type 0) (other : U) → ComparesItemsByEq steps becomes others s other eq r
      → ((it : T) → becomes other it → YieldsList others (λ x. x) it ys) → Decides r (xs ≡ ys)
  eq_from_yields_List becomes other (it, cs, ds, o, p, u, w, b, (t, yc, so), (v, yd, sp), z, l) f = last it cs ds o p t u v w (f it b) yc yd so sp (sym (same_from_all_zip _ cs ds z (λ x y h. sym ((same x y).0 h)))) l
