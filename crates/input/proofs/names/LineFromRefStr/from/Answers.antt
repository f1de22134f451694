use Rattle.std.proofs.Common.{◌≡◌, ◌++◌, codes}
use Rattle.input.proofs.Lines.{sought}
use Rattle.input.proofs.names.LineFromRefStr.from.Goals as goal

pub returns-in-Some : goal.returns-in-Some
returns-in-Some c =
    let (_, found, rest, _) = c.in-Some.ensures.cases in
    let behind : c.args.text.now ≡ codes "seek " ++ c.in-Some.name.now = cc in
    sought _ _ _ _ behind c.parse.ensures.value c.map_or.ensures
