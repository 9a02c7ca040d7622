use Rattle.std.proofs.Common.{ap, ◌∙◌}
use Rattle.ep_words.proofs.OptionCommand.{one_option_more}
use Rattle.clap.specs.Simple.{with_rule}
use Rattle.ep_words.proofs.options.command.Goals as goal

pub loop-name-preserved : goal.loop-name-preserved
loop-name-preserved c =
    one_option_more _ c.loop-name.name-index _ _ _ c.loop-name-test.true c.loop-name.invariant
    (c.in_ok-command.ensures.shape c.option.ensures.local ∙ ap (with_rule _) c.option.ensures.rule)
