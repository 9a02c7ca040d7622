use Rattle.std.proofs.Common.{ap, Some}
use Rattle.ep_eval.specs.Known.{env_of}
use Rattle.ep_tree.specs.Views.{domain_tree}
use Rattle.ep_instance_parts.proofs.LimitSteps.{domain_counted}
use Rattle.ep_instance_parts.proofs.listed.listed_scalars.Goals as goal

pub returns : goal.returns
returns c =
    let told = domain_counted c.args.env.now.mode c.args.before c.in_ok-values.after (env_of c.args.env.now) (domain_tree c.args.d.now) c.in_ok-values.values
    c.in_ok-values.ensures.values in
    record { indices = ap Some c.new.ensures.items; values = told.1; counted = told.0 }
