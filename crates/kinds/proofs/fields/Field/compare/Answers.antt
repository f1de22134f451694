use Rattle.std.proofs.Common.{◌≡◌, ℕ, Option, Some, None, Ordering, Equal, sym, refl, ap, ◌∙◌, arith, rules}
use Rattle.std.proofs.lemmas.Iterator.{YieldsList-from_range, YieldsList-from_map}
use Rattle.std.proofs.lemmas.Iterator.Consumers.{YieldsList-at}
use Rattle.std.proofs.lemmas.Iterator.Search.{find_from_yields_List}
use Rattle.std.specs.Option.{option_map, unwrap_or}
use Rattle.std.specs.Ordering.{nat_cmp, is_ne}
use Rattle.kinds.specs.Fields.{directed}
use Rattle.kinds.specs.Weights.{weighed}
use Rattle.kinds.specs.FieldOrders.{field_lex}
use Rattle.kinds.specs.Lexical.{lex, first_ne_lex}
use Rattle.kinds.proofs.Places.{bytes}
use Rattle.kinds.proofs.fields.Field.compare.Goals as goal

as_it_is : (r : Option Ordering) → unwrap_or r Equal ≡ unwrap_or (option_map (λ o. o) r) Equal
as_it_is (Some o) = refl
as_it_is None = refl

pub returns : goal.returns
returns c =
    let f = c.args.self in
    let a = c.args.a.now in
    let b = c.args.b.now in
    let u = weighed f.signed a in
    let v = weighed f.signed b in
    let o : ℕ → Ordering = λ i. nat_cmp (u i) (v i) in
    let found = find_from_yields_List is_ne _ _ c.find.result c.find.ensures.ran
    (YieldsList-from_map _ o (YieldsList-at c.map.ensures.source (YieldsList-from_range 0 f.width f.width refl (omega arith))) c.map.ensures.closure (λ x r q k. search rules))
    (λ x r q k. search rules) in
    let first : c.unwrap_or-order.result ≡ lex u v f.width = c.unwrap_or-order.ensures ∙ as_it_is c.find.result ∙ ap (λ r. unwrap_or r Equal) found ∙ first_ne_lex u v f.width in
    c.direct.ensures ∙ ap (directed f.descending) first ∙ sym (field_lex f a b (bytes a c.type_inv.a) (bytes b c.type_inv.b))
