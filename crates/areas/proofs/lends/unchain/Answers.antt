use Rattle.std.proofs.Common.{refl, rules}
use Rattle.store.proofs.SpanLaws.{only_refused}
use Rattle.areas.proofs.Lending.{area_row}
use Rattle.areas.proofs.Told.{plain_told}
use Rattle.areas.proofs.lends.unchain.Goals as goal

pub returns-clause-means : goal.returns-clause-means
returns-clause-means c = λ x. area_row x c.args.chain.now _ refl

pub returns-clause-refused : goal.returns-clause-refused
returns-clause-refused c = λ f d. plain_told _ _ (search rules) (search (rules, only_refused)) (search rules)
