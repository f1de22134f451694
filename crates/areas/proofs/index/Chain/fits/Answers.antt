use Rattle.std.proofs.Common.{◌≡◌, Some, vec_items, rules}
use Rattle.std.proofs.lemmas.Bool.Decides.{same_from_decides}
use Rattle.std.proofs.lemmas.Iterator.{YieldsList-from_slice, YieldsList-from_map}
use Rattle.std.proofs.lemmas.Iterator.Consumers.{YieldsList-at, YieldsList-from_first, YieldsList-from_copied}
use borrow.Author.Tests.{tests}
use Rattle.areas.specs.ChainedRows.{leads_through}
use Rattle.areas.specs.Pages.{ahead}
use Rattle.areas.proofs.Same.{eq_from_yields_List}
use Rattle.areas.proofs.Pool.{Decides-leads}
use Rattle.areas.proofs.index.Chain.fits.Goals as goal

pub returns-then-is_whole : goal.returns-then-is_whole
returns-then-is_whole c =
    let m = c.args.memory.now in
    let first = c.args.self.now.first in
    let pages = vec_items c.args.self.now.pages in
    let leads : c.eq.result ≡ leads_through m first pages =
    same_from_decides _ _
    (eq_from_yields_List (λ x y. search (rules, tests)) c.eq.result (YieldsList-from_first (λ x. x) ahead {s = c.new.result} _ c.new.ensures) (λ x it. it ≡ x) c.map.result c.eq.ensures.ran
    (λ it b. YieldsList-at b (YieldsList-from_map _ Some (YieldsList-at c.map.ensures.source (YieldsList-from_copied (YieldsList-from_slice pages (cc)))) c.map.ensures.closure (λ x r q k. search (rules, tests)))))
    (Decides-leads m first pages) in
    search (rules, tests)
