use Rattle.std.proofs.Common.{ap}
use Rattle.ep_tree.specs.Types.{read_type}
use Rattle.ep_types_rules.proofs.RuleSteps.{ill_typed_is}
use Rattle.ep_types_rules.specs.Concluding.{conclude}
use Rattle.ep_types_rules.proofs.rules.read.Goals as goal

pub returns-in-Bool : goal.returns-in-Bool
unfolding read_type
returns-in-Bool c = ill_typed_is c.args.place _ (ap (λ t. conclude c.args.place (read_type t c.args.indices.now c.args.slices)) c.in-Bool.is)

pub returns-in-Int : goal.returns-in-Int
unfolding read_type
returns-in-Int c = ill_typed_is c.args.place _ (ap (λ t. conclude c.args.place (read_type t c.args.indices.now c.args.slices)) c.in-Int.is)

pub returns-in-Empty : goal.returns-in-Empty
unfolding read_type
returns-in-Empty c = ill_typed_is c.args.place _ (ap (λ t. conclude c.args.place (read_type t c.args.indices.now c.args.slices)) c.in-Empty.is)
