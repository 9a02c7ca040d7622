use Rattle.std.proofs.Common.{◌≡◌, ◌∙◌, ap, subst, map, option_map}
use Rattle.ep_eval.specs.Known.{env_of}
use Rattle.ep_tree.specs.Binding.{bind_letting, bind_statement, unless_any}
use Rattle.ep_tree.specs.Statements.{branching, constraints, decided, domain_letting, given, heuristic, letting, objective, requirements}
use Rattle.ep_tree.specs.Views.{domain_tree, expr_tree, group_of, statement_kind_tree}
use Rattle.ep_instance_parts.proofs.Answering.{answers_same}
use Rattle.ep_instance.specs.Progressing.{progress_of}
use Rattle.ep_instance.specs.Steps.{IsFaultless}
use Rattle.ep_instance.proofs.ParamSteps.{domain_faultless, value_faultless}
use Rattle.ep_instance.proofs.ProgressSteps.{branching_step, clauses_step, finds_step, given_faultless, given_step, goal_step, heuristic_step, letting_step, naming_step, where_step}
use Rattle.ep_instance.proofs.statements.bind_statement.Goals as goal

pub bind_given-requires : goal.bind_given-requires
unfolding statement_kind_tree
bind_given-requires c =
    let env = env_of c.args.at.now.env in
    let p = c.args.place in
    let tree : statement_kind_tree p c.args.kind ≡ given p (map group_of c.in-Given.groups.items) = ap (statement_kind_tree p) c.in-Given.is in
    record { faultless = given_faultless env p _ (subst (λ s. IsFaultless env s) tree c.requires.faultless) }

pub bind_letting_value-requires : goal.bind_letting_value-requires
unfolding statement_kind_tree
bind_letting_value-requires c =
    let env = env_of c.args.at.now.env in
    let p = c.args.place in
    let tree : statement_kind_tree p c.args.kind ≡ letting p c.in-Letting.name c.in-Letting.field-1 (option_map domain_tree c.in-Letting.d) (expr_tree c.in-Letting.e) = ap (statement_kind_tree p) c.in-Letting.is in
    let both = value_faultless env p _ _ _ _ (subst (λ s. IsFaultless env s) tree c.requires.faultless) in
    record { stated = both.0; value = both.1 }

pub bind_letting_domain-requires : goal.bind_letting_domain-requires
unfolding statement_kind_tree
bind_letting_domain-requires c =
    let env = env_of c.args.at.now.env in
    let p = c.args.place in
    let tree : statement_kind_tree p c.args.kind ≡ domain_letting p c.in-LettingDomain.name c.in-LettingDomain.field-1 (domain_tree c.in-LettingDomain.d) = ap (statement_kind_tree p) c.in-LettingDomain.is in
    record { faultless = domain_faultless env p _ _ _ (subst (λ s. IsFaultless env s) tree c.requires.faultless) }

pub returns-in-Given-clause-progress : goal.returns-in-Given-clause-progress
unfolding statement_kind_tree
returns-in-Given-clause-progress c =
    let at = progress_of c.args.at.now in
    let mode = c.args.at.now.env.mode in
    let params = env_of c.args.params.now in
    let p = c.args.place in
    let tree : statement_kind_tree p c.args.kind ≡ given p (map group_of c.in-Given.groups.items) = ap (statement_kind_tree p) c.in-Given.is in
    answers_same _ c.bind_given.result _ _ (ap (bind_statement mode params at) tree ∙ given_step mode params at _ _) c.bind_given.ensures.progress

pub returns-in-Find-clause-progress : goal.returns-in-Find-clause-progress
unfolding statement_kind_tree
returns-in-Find-clause-progress c =
    let at = progress_of c.args.at.now in
    let mode = c.args.at.now.env.mode in
    let params = env_of c.args.params.now in
    let p = c.args.place in
    let tree : statement_kind_tree p c.args.kind ≡ decided p (map group_of c.in-Find.groups.items) = ap (statement_kind_tree p) c.in-Find.is in
    answers_same _ c.bind_find.result _ _ (ap (bind_statement mode params at) tree ∙ finds_step mode params at _ _) c.bind_find.ensures.progress

pub returns-in-Letting-clause-progress : goal.returns-in-Letting-clause-progress
unfolding statement_kind_tree bind_letting
returns-in-Letting-clause-progress c =
    let at = progress_of c.args.at.now in
    let mode = c.args.at.now.env.mode in
    let params = env_of c.args.params.now in
    let p = c.args.place in
    let tree : statement_kind_tree p c.args.kind ≡ letting p c.in-Letting.name c.in-Letting.field-1 (option_map domain_tree c.in-Letting.d) (expr_tree c.in-Letting.e) = ap (statement_kind_tree p) c.in-Letting.is in
    answers_same _ c.bind_letting_value.result _ _ (ap (bind_statement mode params at) tree ∙ letting_step mode params at _ _ _ _ _) c.bind_letting_value.ensures.progress

pub returns-in-LettingDomain-clause-progress : goal.returns-in-LettingDomain-clause-progress
unfolding statement_kind_tree bind_letting unless_any
returns-in-LettingDomain-clause-progress c =
    let at = progress_of c.args.at.now in
    let mode = c.args.at.now.env.mode in
    let params = env_of c.args.params.now in
    let p = c.args.place in
    let tree : statement_kind_tree p c.args.kind ≡ domain_letting p c.in-LettingDomain.name c.in-LettingDomain.field-1 (domain_tree c.in-LettingDomain.d) = ap (statement_kind_tree p) c.in-LettingDomain.is in
    answers_same _ c.bind_letting_domain.result _ _ (ap (bind_statement mode params at) tree ∙ naming_step mode params at _ _ _ _) c.bind_letting_domain.ensures.progress

pub returns-in-Where-clause-progress : goal.returns-in-Where-clause-progress
unfolding statement_kind_tree
returns-in-Where-clause-progress c =
    let at = progress_of c.args.at.now in
    let mode = c.args.at.now.env.mode in
    let params = env_of c.args.params.now in
    let p = c.args.place in
    let tree : statement_kind_tree p c.args.kind ≡ requirements p (map expr_tree c.in-Where.conditions.items) = ap (statement_kind_tree p) c.in-Where.is in
    answers_same _ c.bind_where.result _ _ (ap (bind_statement mode params at) tree ∙ where_step mode params at _ _) c.bind_where.ensures.progress

pub returns-in-SuchThat-clause-progress : goal.returns-in-SuchThat-clause-progress
unfolding statement_kind_tree
returns-in-SuchThat-clause-progress c =
    let at = progress_of c.args.at.now in
    let mode = c.args.at.now.env.mode in
    let params = env_of c.args.params.now in
    let p = c.args.place in
    let tree : statement_kind_tree p c.args.kind ≡ constraints p (map expr_tree c.in-SuchThat.clauses.items) = ap (statement_kind_tree p) c.in-SuchThat.is in
    answers_same _ c.add_clauses.result _ _ (ap (bind_statement mode params at) tree ∙ clauses_step mode params at _ _) c.add_clauses.ensures.progress

pub returns-in-Objective-clause-progress : goal.returns-in-Objective-clause-progress
unfolding statement_kind_tree
returns-in-Objective-clause-progress c =
    let at = progress_of c.args.at.now in
    let mode = c.args.at.now.env.mode in
    let params = env_of c.args.params.now in
    let p = c.args.place in
    let tree : statement_kind_tree p c.args.kind ≡ objective p c.in-Objective.sense (expr_tree c.in-Objective.e) = ap (statement_kind_tree p) c.in-Objective.is in
    answers_same _ c.set_objective.result _ _ (ap (bind_statement mode params at) tree ∙ goal_step mode params at _ _ _) c.set_objective.ensures.progress

pub returns-in-Branching-clause-progress : goal.returns-in-Branching-clause-progress
unfolding statement_kind_tree
returns-in-Branching-clause-progress c =
    let at = progress_of c.args.at.now in
    let mode = c.args.at.now.env.mode in
    let params = env_of c.args.params.now in
    let p = c.args.place in
    let tree : statement_kind_tree p c.args.kind ≡ branching p c.in-Branching.field-0.items = ap (statement_kind_tree p) c.in-Branching.is in
    ap (bind_statement mode params at) tree ∙ branching_step mode params at p _

pub returns-clause-progress : goal.returns-clause-progress
unfolding statement_kind_tree
returns-clause-progress c =
    let at = progress_of c.args.at.now in
    let mode = c.args.at.now.env.mode in
    let params = env_of c.args.params.now in
    let p = c.args.place in
    let tree : statement_kind_tree p c.args.kind ≡ heuristic p c.in-Heuristic.field-0 = ap (statement_kind_tree p) c.in-Heuristic.is in
    ap (bind_statement mode params at) tree ∙ heuristic_step mode params at p _
