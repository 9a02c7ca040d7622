use Rattle.std.proofs.Common.{ap, option_map}
use Rattle.ep_eval.specs.Known.{env_of}
use Rattle.ep_tree.specs.Views.{domain_tree}
use Rattle.ep_instance.proofs.FindSteps.{listed_shape, unlisted_indices, unlisted_values}
use Rattle.ep_instance.proofs.lettings.listed_from.Goals as goal

pub returns-in_default : goal.returns-in_default
returns-in_default c =
    unlisted_indices c.args.env.now.mode (env_of c.args.env.now) _ _ (domain_tree c.args.d.now) c.args.read c.requires.read.2 (ap (option_map (λ v. v.items)) c.in_default.is)

pub returns-in_default-values : goal.returns-in_default-values
returns-in_default-values c =
    unlisted_values c.args.env.now.mode (env_of c.args.env.now) _ _ (domain_tree c.args.d.now) c.args.read c.requires.read.2 c.in_default-values.is

pub returns : goal.returns
returns c =
    listed_shape c.args.env.now.mode (env_of c.args.env.now) _ _ (domain_tree c.args.d.now) c.args.read
    (record { scalar = c.in_ok-scalar.scalar; indices = c.in-Some.indices; values = c.in-Some-values.values }) c.requires.read.2
    (ap (option_map (λ v. v.items)) c.in-Some.is) c.in-Some-values.is c.in_ok-scalar.ensures
