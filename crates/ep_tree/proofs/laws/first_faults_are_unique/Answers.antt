use Rattle.ep_tree.proofs.FirstFault.{Begins-fewer, stops_once}
use Rattle.ep_tree.specs.Heights.{domain_height, height}
use Rattle.ep_tree.specs.Reading.{Begins, Low}
use Rattle.ep_tree.specs.Spelling.{Spells, SpellsDomain}
use Rattle.ep_tree.specs.Statements.{text_height}
use Rattle.ep_tree.specs.StatementSpelling.{SpellsModel, SpellsParams}
use Rattle.ep_tree.proofs.laws.first_faults_are_unique.Goals as goal

pub returns-clause-expressions : goal.returns-clause-expressions
returns-clause-expressions c level tokens = stops_once (Begins (Spells level)) tokens (Begins-fewer (Spells level) tokens)

pub returns-clause-low_expressions : goal.returns-clause-low_expressions
returns-clause-low_expressions c level most tokens = stops_once (Begins (Low height most (Spells level))) tokens (Begins-fewer (Low height most (Spells level)) tokens)

pub returns-clause-domains : goal.returns-clause-domains
returns-clause-domains c level tokens = stops_once (Begins (SpellsDomain level)) tokens (Begins-fewer (SpellsDomain level) tokens)

pub returns-clause-low_domains : goal.returns-clause-low_domains
returns-clause-low_domains c level most tokens = stops_once (Begins (Low domain_height most (SpellsDomain level))) tokens (Begins-fewer (Low domain_height most (SpellsDomain level)) tokens)

pub returns-clause-models : goal.returns-clause-models
returns-clause-models c tokens = stops_once (Begins SpellsModel) tokens (Begins-fewer SpellsModel tokens)

pub returns-clause-low_models : goal.returns-clause-low_models
returns-clause-low_models c most tokens = stops_once (Begins (Low text_height most SpellsModel)) tokens (Begins-fewer (Low text_height most SpellsModel) tokens)

pub returns-clause-params : goal.returns-clause-params
returns-clause-params c tokens = stops_once (Begins SpellsParams) tokens (Begins-fewer SpellsParams tokens)

pub returns-clause-low_params : goal.returns-clause-low_params
returns-clause-low_params c most tokens = stops_once (Begins (Low text_height most SpellsParams)) tokens (Begins-fewer (Low text_height most SpellsParams) tokens)
