use Rattle.std.proofs.Common.{◌≡◌, ◌∙◌, All, [], ap, subst, sym}
use Rattle.ep_eval.specs.Known.{env_of}
use Rattle.ep_tree.specs.Evaluation.{first_untrue}
use Rattle.ep_tree.specs.Limits.{limits_of_values}
use Rattle.ep_tree.specs.Measures.{met}
use Rattle.ep_tree.specs.Views.{expr_tree}
use Rattle.ep_instance_parts.specs.Instances.{plain_instance}
use Rattle.ep_instance.proofs.JudgingSteps.{all_back, judged_last, judged_violated}
use Rattle.ep_instance.proofs.judging.judged_in.Goals as goal

pub returns-in-Some : goal.returns-in-Some
returns-in-Some c =
    let m = c.args.env.now.mode in
    let env = env_of c.args.env.now in
    judged_violated m env (plain_instance c.args.instance.now) _ c.in-Some.number (c.in_ok-violated.ensures ∙ ap (λ es. first_untrue m env 1 es) c.clauses.ensures) c.in-Some.is

pub returns-in-None : goal.returns-in-None
returns-in-None c =
    let m = c.args.env.now.mode in
    let env = env_of c.args.env.now in
    judged_last m env (plain_instance c.args.instance.now) _ _ _ (c.in_ok-violated.ensures ∙ ap (λ es. first_untrue m env 1 es) c.clauses.ensures) c.in-None.is c.objective.ensures c.judge_objective.ensures

pub first_violated-requires : goal.first_violated-requires
first_violated-requires c =
    let m = c.args.env.now.mode in
    let env = env_of c.args.env.now in
    all_back (λ e. limits_of_values m 0 (met m env e) ≡ []) expr_tree c.clauses.result.now
    (subst (All (λ e. limits_of_values m 0 (met m env e) ≡ [])) (sym c.clauses.ensures) c.requires.clauses)

pub judge_objective-requires : goal.judge_objective-requires
judge_objective-requires c = λ sense e is. c.requires.goal sense e (sym c.objective.ensures ∙ is)
