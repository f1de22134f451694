use Rattle.std.proofs.Common.{length, rules}
use Rattle.kinds.specs.Search.{Turn, bound_at, not_above}
use Rattle.kinds.proofs.Places.{bytes, last_not_above}
use Rattle.kinds.proofs.search.last_not_above.Goals as goal

pub returns : goal.returns
returns g c =
    let m = g.K.RecordKind.kind in
    let entries = c.args.entries.now in
    let key = c.args.key.now in
    let t = c.turning_point.result in
    let turn : Turn (not_above m entries key) (length entries) t = record {
      within = c.turning_point.ensures.within;
      before = λ i e. let h = c.turning_point.ensures.before i e in search rules;
      behind = λ l. let h = c.turning_point.ensures.behind l in search rules;
    } in
    record {
      turn = (t, turn, c.saturating_sub.ensures);
      last = λ l up. last_not_above m g.met.K.RecordKind.lawful (bound_at m entries) (length entries) up.keyed up.ascend key (l, bytes key c.type_inv.key) t c.saturating_sub.result turn c.saturating_sub.ensures;
    }
