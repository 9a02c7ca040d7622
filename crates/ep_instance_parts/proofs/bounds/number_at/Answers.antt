use Rattle.std.proofs.Common.{◌∙◌, ap}
use Rattle.ep_eval.specs.Known.{env_of}
use Rattle.ep_eval.specs.Outcomes.{seen_value}
use Rattle.ep_tree.specs.Evaluation.{number_in}
use Rattle.ep_tree.specs.Views.{expr_tree}
use Rattle.ep_instance_parts.proofs.LimitSteps.{value_counted}
use Rattle.ep_instance_parts.proofs.bounds.number_at.Goals as goal

pub returns-clause-number : goal.returns-clause-number
returns-clause-number c =
    c.seen_number.ensures
    ∙ ap number_in
    (value_counted c.args.env.now.mode c.args.before c.in_ok-seen.after (env_of c.args.env.now) (expr_tree c.args.e.now)
    (seen_value c.in_ok-seen.seen) c.in_ok-seen.ensures.value).1

pub returns-clause-counted : goal.returns-clause-counted
returns-clause-counted c =
    (value_counted c.args.env.now.mode c.args.before c.in_ok-seen.after (env_of c.args.env.now) (expr_tree c.args.e.now)
    (seen_value c.in_ok-seen.seen) c.in_ok-seen.ensures.value).0
