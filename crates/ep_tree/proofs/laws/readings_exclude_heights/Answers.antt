use Rattle.ep_tree.proofs.FirstFault.{read_not_too_high}
use Rattle.ep_tree.specs.Heights.{domain_height, height}
use Rattle.ep_tree.specs.Spelling.{Spells, SpellsDomain}
use Rattle.ep_tree.proofs.laws.readings_exclude_heights.Goals as goal

pub returns-clause-expressions : goal.returns-clause-expressions
returns-clause-expressions c level = read_not_too_high (Spells level) height

pub returns-clause-domains : goal.returns-clause-domains
returns-clause-domains c level = read_not_too_high (SpellsDomain level) domain_height
