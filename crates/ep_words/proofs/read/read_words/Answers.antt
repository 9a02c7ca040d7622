use Rattle.std.proofs.Common.{List, ap, subst, ◌∙◌}
use Rattle.ep_words.specs.Settings.{MakeSettings, Text}
use Rattle.ep_words.specs.Views.{settings_of}
use Rattle.ep_words.proofs.Edges.{if_err}
use Rattle.ep_words.proofs.OptionSettings.{texts_of}
use Rattle.ep_words.proofs.SettingLaws.{no_job}
use Rattle.ep_words.proofs.read.read_words.Goals as goal

pub returns-clause-usage : goal.returns-clause-usage
returns-clause-usage c =
    let settings = settings_of c.in_ok-settings.settings in
    let made = subst (λ (words : List Text). MakeSettings words settings) (ap texts_of c.deref.ensures.value ∙ c.in_ok-texts.ensures) c.in_ok-settings.ensures.made.0 in
    if_err c.job_of.result _ _ _ c.job_of.ensures
    (λ e none usage job command. no_job c.args.words.now settings made (none usage) job command)
