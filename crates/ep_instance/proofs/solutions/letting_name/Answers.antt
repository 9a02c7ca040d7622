use Rattle.std.proofs.Common.{ap, sym}
use Rattle.ep_tree.specs.Views.{statement_kind_tree}
use Rattle.ep_instance.specs.Shaping.{letting_name}
use Rattle.ep_instance.proofs.solutions.letting_name.Goals as goal

pub returns-in-Letting : goal.returns-in-Letting
unfolding letting_name statement_kind_tree
returns-in-Letting c = sym (ap (λ k. letting_name (statement_kind_tree c.args.statement.now.place k)) c.in-Letting.is)

pub returns-in-LettingDomain : goal.returns-in-LettingDomain
unfolding letting_name statement_kind_tree
returns-in-LettingDomain c = sym (ap (λ k. letting_name (statement_kind_tree c.args.statement.now.place k)) c.in-LettingDomain.is)

pub returns-in-Given : goal.returns-in-Given
unfolding letting_name statement_kind_tree
returns-in-Given c = sym (ap (λ k. letting_name (statement_kind_tree c.args.statement.now.place k)) c.in-Given.is)

pub returns-in-Find : goal.returns-in-Find
unfolding letting_name statement_kind_tree
returns-in-Find c = sym (ap (λ k. letting_name (statement_kind_tree c.args.statement.now.place k)) c.in-Find.is)

pub returns-in-Where : goal.returns-in-Where
unfolding letting_name statement_kind_tree
returns-in-Where c = sym (ap (λ k. letting_name (statement_kind_tree c.args.statement.now.place k)) c.in-Where.is)

pub returns-in-SuchThat : goal.returns-in-SuchThat
unfolding letting_name statement_kind_tree
returns-in-SuchThat c = sym (ap (λ k. letting_name (statement_kind_tree c.args.statement.now.place k)) c.in-SuchThat.is)

pub returns-in-Objective : goal.returns-in-Objective
unfolding letting_name statement_kind_tree
returns-in-Objective c = sym (ap (λ k. letting_name (statement_kind_tree c.args.statement.now.place k)) c.in-Objective.is)

pub returns-in-Branching : goal.returns-in-Branching
unfolding letting_name statement_kind_tree
returns-in-Branching c = sym (ap (λ k. letting_name (statement_kind_tree c.args.statement.now.place k)) c.in-Branching.is)

pub returns-in-Heuristic : goal.returns-in-Heuristic
unfolding letting_name statement_kind_tree
returns-in-Heuristic c = sym (ap (λ k. letting_name (statement_kind_tree c.args.statement.now.place k)) c.in-Heuristic.is)
