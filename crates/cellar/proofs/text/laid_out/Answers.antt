use Rattle.std.proofs.Common.{◌≡◌, ◌+◌, arith, rules}
use Rattle.std.proofs.lemmas.Bool.Decides.{nat_tests}
use Rattle.cellar.proofs.Pages.{next_at, mark_at, one_page_more, all_pages}
use Rattle.cellar.proofs.text.laid_out.Goals as goal

pub loop-before-preserved : goal.loop-before-preserved
loop-before-preserved c =
    let page = c.loop-before.before + 1 in
    let next : c.if-before-pages.next ≡ next_at c.args.pages page = search (rules, nat_tests) in
    let mark : c.from-mark.result ≡ mark_at page = search (rules, nat_tests) in
    rw c.in_ok-push_page.ensures (one_page_more _ _ _ _ _ c.loop-before.invariant (omega arith) next mark)

pub returns : goal.returns
returns c =
    let all : c.loop-before.before ≡ c.args.pages = omega arith in
    all_pages _ _ (rw all at c.loop-before.invariant)
