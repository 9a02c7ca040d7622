use Rattle.std.proofs.Common.{ap, subst, ◌∙◌}
use Rattle.ep_eval.specs.Known.{env_of}
use Rattle.ep_tree.specs.Binding.{bind_letting}
use Rattle.ep_tree.specs.StatementSpelling.{is_letting}
use Rattle.ep_tree.specs.Views.{statement_kind_tree, statement_tree}
use Rattle.ep_instance_parts.proofs.Answering.{answers_same}
use Rattle.ep_instance_parts.specs.Refusals.{text_name}
use Rattle.ep_instance.specs.Steps.{IsFaultless}
use Rattle.ep_instance.proofs.ParamSteps.{domain_faultless, domain_is_letting, letting_tree, named_at, named_tree, other_letting, value_at, value_faultless, value_is_letting}
use Rattle.ep_instance.proofs.lettings.bind_letting.Goals as goal

pub bind_value-requires : goal.bind_value-requires
bind_value-requires c =
    let env = env_of c.args.env.now in
    let tree = letting_tree c.args.statement.now _ _ _ _ c.in-Letting.is in
    let both = value_faultless env _ _ _ _ _ (subst (λ s. IsFaultless env s) tree (c.requires.faultless (ap is_letting tree ∙ value_is_letting _ _ _ _ _))) in
    record { stated = both.0; value = both.1 }

pub returns-in-Letting-clause-known : goal.returns-in-Letting-clause-known
returns-in-Letting-clause-known c =
    let env = env_of c.args.env.now in
    let tree = letting_tree c.args.statement.now _ _ _ _ c.in-Letting.is in
    answers_same _ c.bind_value.result _ _
    (ap (bind_letting c.args.env.now.mode (text_name c.args.text) env) tree ∙ value_at c.args.env.now.mode (text_name c.args.text) _ _ env _ _ _)
    c.bind_value.ensures.known

pub bind_domain-requires : goal.bind_domain-requires
bind_domain-requires c =
    let env = env_of c.args.env.now in
    let tree = named_tree c.args.statement.now _ _ _ c.in-LettingDomain.is in
    record { faultless = domain_faultless env _ _ _ _ (subst (λ s. IsFaultless env s) tree (c.requires.faultless (ap is_letting tree ∙ domain_is_letting _ _ _ _))) }

pub returns-in-LettingDomain-clause-known : goal.returns-in-LettingDomain-clause-known
returns-in-LettingDomain-clause-known c =
    let env = env_of c.args.env.now in
    let tree = named_tree c.args.statement.now _ _ _ c.in-LettingDomain.is in
    answers_same _ c.bind_domain.result _ _
    (ap (bind_letting c.args.env.now.mode (text_name c.args.text) env) tree ∙ named_at c.args.env.now.mode (text_name c.args.text) _ _ env _ _)
    c.bind_domain.ensures.known

pub returns-in-Given-clause-known : goal.returns-in-Given-clause-known
unfolding is_letting statement_kind_tree
returns-in-Given-clause-known c =
    other_letting c.args.env.now.mode (text_name c.args.text) (env_of c.args.env.now) (statement_tree c.args.statement.now)
    (ap (λ k. is_letting (statement_kind_tree c.args.statement.now.place k)) c.in-Given.is)

pub returns-in-Find-clause-known : goal.returns-in-Find-clause-known
unfolding is_letting statement_kind_tree
returns-in-Find-clause-known c =
    other_letting c.args.env.now.mode (text_name c.args.text) (env_of c.args.env.now) (statement_tree c.args.statement.now)
    (ap (λ k. is_letting (statement_kind_tree c.args.statement.now.place k)) c.in-Find.is)

pub returns-in-Where-clause-known : goal.returns-in-Where-clause-known
unfolding is_letting statement_kind_tree
returns-in-Where-clause-known c =
    other_letting c.args.env.now.mode (text_name c.args.text) (env_of c.args.env.now) (statement_tree c.args.statement.now)
    (ap (λ k. is_letting (statement_kind_tree c.args.statement.now.place k)) c.in-Where.is)

pub returns-in-SuchThat-clause-known : goal.returns-in-SuchThat-clause-known
unfolding is_letting statement_kind_tree
returns-in-SuchThat-clause-known c =
    other_letting c.args.env.now.mode (text_name c.args.text) (env_of c.args.env.now) (statement_tree c.args.statement.now)
    (ap (λ k. is_letting (statement_kind_tree c.args.statement.now.place k)) c.in-SuchThat.is)

pub returns-in-Objective-clause-known : goal.returns-in-Objective-clause-known
unfolding is_letting statement_kind_tree
returns-in-Objective-clause-known c =
    other_letting c.args.env.now.mode (text_name c.args.text) (env_of c.args.env.now) (statement_tree c.args.statement.now)
    (ap (λ k. is_letting (statement_kind_tree c.args.statement.now.place k)) c.in-Objective.is)

pub returns-in-Branching-clause-known : goal.returns-in-Branching-clause-known
unfolding is_letting statement_kind_tree
returns-in-Branching-clause-known c =
    other_letting c.args.env.now.mode (text_name c.args.text) (env_of c.args.env.now) (statement_tree c.args.statement.now)
    (ap (λ k. is_letting (statement_kind_tree c.args.statement.now.place k)) c.in-Branching.is)

pub returns-in-Heuristic-clause-known : goal.returns-in-Heuristic-clause-known
unfolding is_letting statement_kind_tree
returns-in-Heuristic-clause-known c =
    other_letting c.args.env.now.mode (text_name c.args.text) (env_of c.args.env.now) (statement_tree c.args.statement.now)
    (ap (λ k. is_letting (statement_kind_tree c.args.statement.now.place k)) c.in-Heuristic.is)
