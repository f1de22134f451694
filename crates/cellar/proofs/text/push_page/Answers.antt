use Rattle.cellar.proofs.Pages.{two_parts}
use Rattle.cellar.proofs.text.push_page.Goals as goal

pub returns : goal.returns
returns c =
    let first = rw c.to_be_bytes.ensures at c.in_ok-extend_from_slice.ensures.items in
    two_parts _ _ _ _ _ _ first c.extend_from_slice-2.ensures.items
