use Rattle.ep_parse_model.proofs.TextsAgain.{one_model, one_params}
use Rattle.ep_parse_model.proofs.laws.tokens_spell_one_text.Goals as goal

pub returns-clause-models : goal.returns-clause-models
returns-clause-models c one other tokens = one_model one other tokens

pub returns-clause-params : goal.returns-clause-params
returns-clause-params c one other tokens = one_params one other tokens
