use Rattle.std.proofs.Common.{rules, arith}
use Rattle.std.proofs.lemmas.Result.{MatchResult-from_err}
use Rattle.input.proofs.Strokes.{spells_none, spells}
use Rattle.input.proofs.names.GyleNameFromStr.from_str.Goals as goal

pub returns-in_err-year : goal.returns-in_err-year
returns-in_err-year c =
    MatchResult-from_err _ _ _ c.from_residual.ensures.0 (λ _. spells_none _ _ c.split_once.ensures.cases c.in_err-year.ensures.ok_part)

pub returns-in_err-parse : goal.returns-in_err-parse
returns-in_err-parse c =
    let parts = spells _ _ c.split_once.ensures.cases _ c.in_ok-year.ensures.ok_part in
    MatchResult-from_err _ _ _ c.from_residual-in_err-parse.ensures.0 (λ _ name s. grind (arith, (parts name).0 s))

pub returns-in_err-parse-2 : goal.returns-in_err-parse-2
returns-in_err-parse-2 c =
    let parts = spells _ _ c.split_once.ensures.cases _ c.in_ok-year.ensures.ok_part in
    MatchResult-from_err _ _ _ c.from_residual-in_err-parse-2.ensures.0 (λ _ name s. grind (arith, (parts name).0 s))

pub returns : goal.returns
returns c =
    let parts = spells _ _ c.split_once.ensures.cases _ c.in_ok-year.ensures.ok_part in
    (parts _).1 (search (rules, c.in_ok-parse.ensures.value.0), search (rules, c.in_ok-parse-2.ensures.value.0))
