use Rattle.ep_parse_parts.proofs.Finding.{finds_at, finds_shown}
use Rattle.ep_parse_below.proofs.OperandFacts.{open_bracket, open_truth, open_with_part}
use Rattle.ep_parse_trees.proofs.operands.begun.Goals as goal

pub returns-in-Truth : goal.returns-in-Truth
returns-in-Truth g c = record { read = finds_shown _ _ _ _ c.truth.ensures.made (open_truth _ _ _ c.args.opening _ _ _ _ _ c.in-Truth.is c.pass.ensures.place c.pass.ensures.passed) }

pub returns-in-Bracket : goal.returns-in-Bracket
returns-in-Bracket g c = record { read = finds_at _ _ _ _ (open_bracket _ _ _ c.args.opening _ _ _ _ c.in-Bracket.is c.pass-place.ensures.place c.pass-place.ensures.passed) c.bracket.ensures.read }

pub returns-in_default : goal.returns-in_default
returns-in_default g c = record { read = finds_at _ _ _ _ (open_with_part _ _ c.args.opening _ c.in_default.not-Truth c.in_default.not-Bracket) c.with_part.ensures.read }
