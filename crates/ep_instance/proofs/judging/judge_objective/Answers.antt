use Rattle.std.proofs.Common.{ap, ◌∙◌, option_map}
use Rattle.ep_eval.specs.Known.{env_of}
use Rattle.ep_eval.specs.Outcomes.{seen_value}
use Rattle.ep_tree.specs.Views.{expr_tree}
use Rattle.ep_instance_parts.specs.Instances.{goal_of}
use Rattle.ep_instance.proofs.JudgingSteps.{goal_missing, goal_stated}
use Rattle.ep_instance.proofs.judging.judge_objective.Goals as goal

pub returns-in_default : goal.returns-in_default
returns-in_default c = goal_missing c.args.env.now.mode (env_of c.args.env.now) _ (ap (option_map (λ o. goal_of o.now)) c.in_default.is)

pub returns : goal.returns
returns c =
    c.judged_by.ensures
    ∙ goal_stated c.args.env.now.mode (env_of c.args.env.now) _ c.in-Some.goal.now.sense (expr_tree c.in-Some.goal.now.e) (seen_value c.in_ok-seen.seen) _
    (ap (option_map (λ o. goal_of o.now)) c.in-Some.is) c.in_ok-seen.ensures c.seen_number-value.ensures

pub seen_in-requires : goal.seen_in-requires
seen_in-requires c =
    c.requires c.in-Some.goal.now.sense (expr_tree c.in-Some.goal.now.e) (ap (option_map (λ o. goal_of o.now)) c.in-Some.is)
