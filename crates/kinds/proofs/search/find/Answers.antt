use Rattle.std.proofs.Common.{◌≡◌, ◌<◌, Ok, Err, Equal, refl, sym, ap, ◌∙◌, true≢false, arith, rules}
use Rattle.std.specs.Cmp.{Equal-is}
use Rattle.std.specs.Ordering.{is_eq}
use Rattle.kinds.specs.Search.{key_in, held_in, Turn, below, Looked}
use Rattle.kinds.proofs.Places.{found_in}
use Rattle.kinds.proofs.search.find.Given as given
use Rattle.kinds.proofs.search.find.Goals as goal
use Rattle.kinds.proofs.search.find.Goals.{After-turning_point-at, else-at-held-via-then-at-held+else-is_eq, else-at-held-via-else-at-held}

turn_here : (g : given.Over) (c : After-turning_point-at g) → (let m = g.K.RecordKind.kind in let block = c.args.block.now in Turn (below m block c.args.key.now) (held_in m block) c.turning_point-at.result)
turn_here g c = record {
  within = omega (arith, c.turning_point-at.ensures.within, c.held-held.ensures);
  before = λ i e. let h = c.turning_point-at.ensures.before i e in search rules;
  behind = λ l. let h = c.turning_point-at.ensures.behind (omega (arith, l, c.held-held.ensures)) in search rules;
}

pub returns-then-is_eq : goal.returns-then-is_eq
returns-then-is_eq g c =
    let m = g.K.RecordKind.kind in
    let block = c.args.block.now in
    let key = c.args.key.now in
    let at = c.turning_point-at.result in
    let level : m.order (key_in m block at) key ≡ Equal = ap (λ k. m.order k key) (sym c.key_of.ensures) ∙ sym c.compare.ensures ∙ (Equal-is c.compare.result).0 (sym c.is_eq.ensures ∙ c.if-is_eq.true) in
    let looked : Looked m block key (Ok at) = record {
      turn = turn_here g (goal.at.returns-then-is_eq g c).After-turning_point-at;
      same = (λ t. (omega (arith, c.held-held.ensures), level), λ h. refl);
    } in
    record { looked = looked; found = found_in m g.met.K.RecordKind.sizes g.met.K.RecordKind.lawful block key c.type_inv.block c.type_inv.key (Ok at) looked }

pub returns-else-at-held : goal.returns-else-at-held
returns-else-at-held g c =
    let m = g.K.RecordKind.kind in
    let block = c.args.block.now in
    let key = c.args.key.now in
    let at = c.turning_point-at.result in
    let apart : at < held_in m block → m.order (key_in m block at) key ≡ Equal → ⊥ = λ l e. elim c.else-at-held.branch [
      | else-at-held-via-then-at-held+else-is_eq w ↦ true≢false (sym (w.is_eq.ensures ∙ ap is_eq (w.compare.ensures ∙ ap (λ k. m.order k key) w.key_of.ensures ∙ e)) ∙ w.if-is_eq.false)
      | else-at-held-via-else-at-held w ↦ omega (arith, l, w.if-at-held.false, c.held-held.ensures)
    ] in
    let looked : Looked m block key (Err at) = record {
      turn = turn_here g (goal.at.returns-else-at-held g c).After-turning_point-at;
      same = (λ t. absurd (true≢false (sym t)), λ h. absurd (apart h.0 h.1));
    } in
    record { looked = looked; found = found_in m g.met.K.RecordKind.sizes g.met.K.RecordKind.lawful block key c.type_inv.block c.type_inv.key (Err at) looked }
