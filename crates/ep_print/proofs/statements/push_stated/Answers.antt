use Rattle.std.proofs.Common.{ap, ◌++◌, ◌∙◌}
use Rattle.ep_print.specs.Putting.{words_spaced}
use Rattle.ep_print.proofs.Sentences.{stated_none, stated_some}
use Rattle.ep_print.proofs.Puts.{puts_both, puts_none}
use Rattle.ep_print.proofs.statements.push_stated.Goals as goal

pub returns-in_ok-push_domain : goal.returns-in_ok-push_domain
returns-in_ok-push_domain c = puts_both _ _ _ _ _ c.in_ok-push_word.ensures c.in_ok-push_domain.ensures ∙ ap (λ ws. c.args.text.now.items ++ words_spaced ws) (stated_some _ _ c.in-Some.is)

pub returns-in_default : goal.returns-in_default
returns-in_default c = puts_none _ ∙ ap (λ ws. c.args.text.now.items ++ words_spaced ws) (stated_none _ c.in_default.is)
