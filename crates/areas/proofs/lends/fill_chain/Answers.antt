use Rattle.std.proofs.Common.{refl, rules}
use Rattle.store.proofs.SpanLaws.{only_refused}
use Rattle.areas.proofs.Lending.{afterwards, area_row}
use Rattle.areas.proofs.lends.fill_chain.Goals as goal

pub returns : goal.returns
returns c =
    let store = c.write_span.new.store in
    let k = afterwards c.args.pool.now c.args.chain.now store.cut store.memory.now (search rules) in
    record {
      value = search rules;
      after = search (rules, k.row);
      kept = search (rules, k.kept);
      means = λ x. area_row x c.args.chain.now _ refl;
      chains = λ p. let h = k.chains p in search rules;
      refused = λ f d. let t = k.told (search (rules, k.row, only_refused)) in search rules;
    }
