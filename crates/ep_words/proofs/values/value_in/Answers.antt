use Rattle.std.proofs.Common.{◌∙◌}
use Rattle.ep_words.proofs.OptionLists.{value_found}
use Rattle.ep_words.proofs.values.value_in.Goals as goal

pub returns : goal.returns
returns c = c.get_str.ensures ∙ value_found c.args.settings.now c.args.name.now
