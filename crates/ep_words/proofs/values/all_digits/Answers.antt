use Rattle.std.proofs.Common.{◌∙◌, ap, arith}
use Rattle.ep_base.specs.TokenTexts.{is_number}
use Rattle.ep_words.proofs.Lists.{digits_are_number}
use Rattle.ep_words.proofs.values.all_digits.Goals as goal

pub returns-in_default : goal.returns-in_default
returns-in_default c = c.are_digits.ensures ∙ digits_are_number c.as_bytes.result.now (omega arith) ∙ ap is_number c.as_bytes.ensures.value
