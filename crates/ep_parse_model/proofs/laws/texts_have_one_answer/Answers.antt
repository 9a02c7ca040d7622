use Rattle.ep_parse_model.proofs.OneAnswer.{one_answer}
use Rattle.ep_parse_model.proofs.TextsAgain.{one_model, one_params}
use Rattle.ep_parse_model.proofs.laws.texts_have_one_answer.Goals as goal
use Rattle.ep_tree.specs.StatementSpelling.{SpellsModel, SpellsParams}

pub returns-clause-models : goal.returns-clause-models
returns-clause-models c text one other = one_answer SpellsModel one_model text one other

pub returns-clause-params : goal.returns-clause-params
returns-clause-params c text one other = one_answer SpellsParams one_params text one other
