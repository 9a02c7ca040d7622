use Rattle.ep_words.proofs.OptionCommand.{refused, taken}
use Rattle.ep_words.proofs.options.matches_of.Goals as goal

pub returns-in_err-try_get_matches_from : goal.returns-in_err-try_get_matches_from
returns-in_err-try_get_matches_from c =
    refused c.from_residual-in_err-try_get_matches_from.result _ _ _ c.in_err-try_get_matches_from.field-0.0 c.in_ok-command.ensures c.in_err-try_get_matches_from.ensures.kinds
    c.from_residual-in_err-try_get_matches_from.ensures.1

pub returns : goal.returns
returns c = taken _ _ _ c.in_ok-command.ensures c.in_ok-try_get_matches_from.ensures.kinds c.in_ok-try_get_matches_from.ensures.matches
