use Rattle.std.proofs.Common.{sym}
use Rattle.ep_parse_trees.proofs.ComparisonFacts.{compared_none, compared_some}
use Rattle.ep_parse_parts.proofs.Finding.{finds_at}
use Rattle.ep_parse_parts.specs.Openings.{comparison_of}
use Rattle.ep_parse_trees.proofs.operators.comparison_behind.Goals as goal

pub returns-in-Some : goal.returns-in-Some
returns-in-Some g c = record { read = finds_at _ _ _ _ (compared_some _ _ _ (comparison_of c.in-Some.op) _ (sym c.in-Some.ensures.next)) c.compared.ensures.read }

pub returns-in-None : goal.returns-in-None
returns-in-None g c = record { read = (compared_none _ _ _ _ (sym c.in-None.ensures.next), c.requires.one) }
