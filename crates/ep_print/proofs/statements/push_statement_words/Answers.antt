use Rattle.ep_print.proofs.Arms.{last1, last2, last3, last4}
use Rattle.ep_print.proofs.Sentences.{branching_pieces, domain_letting_pieces, find_pieces, given_pieces, heuristic_pieces, letting_pieces, objective_pieces, such_that_pieces, where_pieces}
use Rattle.ep_print.proofs.statements.push_statement_words.Goals as goal

pub returns-in-Given : goal.returns-in-Given
returns-in-Given c =
    last1 _ _ _ _ _ (rw c.deref.ensures.value at c.push_groups.ensures) (given_pieces c.args.statement.now.place c.args.statement.now.kind _ c.in-Given.is)

pub returns-in-Find : goal.returns-in-Find
returns-in-Find c =
    last1 _ _ _ _ _ (rw c.deref-in-Find.ensures.value at c.push_groups-in-Find.ensures) (find_pieces c.args.statement.now.place c.args.statement.now.kind _ c.in-Find.is)

pub returns-in_ok-push_word-in-Letting : goal.returns-in_ok-push_word-in-Letting
returns-in_ok-push_word-in-Letting c =
    last4 _ _ _ _ _ _ _ _ _ _ _ c.in_ok-push_words-in-Letting.ensures c.in_ok-push_stated-in-Letting.ensures c.in_ok-push_word-in-Letting.ensures c.push_expr.ensures (letting_pieces c.args.statement.now.place c.args.statement.now.kind _ _ _ _ _ c.in-Letting.is c.text.ensures.text)

pub returns-in_ok-push_words-in-LettingDomain : goal.returns-in_ok-push_words-in-LettingDomain
returns-in_ok-push_words-in-LettingDomain c =
    last2 _ _ _ _ _ _ _ c.in_ok-push_words-in-LettingDomain.ensures c.push_domain.ensures (domain_letting_pieces c.args.statement.now.place c.args.statement.now.kind _ _ _ _ c.in-LettingDomain.is c.text-in-LettingDomain.ensures.text)

pub returns-in-Where : goal.returns-in-Where
returns-in-Where c =
    last1 _ _ _ _ _ (rw c.deref-in-Where.ensures.value at c.push_clauses.ensures) (where_pieces c.args.statement.now.place c.args.statement.now.kind _ c.in-Where.is)

pub returns-in-SuchThat : goal.returns-in-SuchThat
returns-in-SuchThat c =
    last1 _ _ _ _ _ (rw c.deref-in-SuchThat.ensures.value at c.push_clauses-in-SuchThat.ensures) (such_that_pieces c.args.statement.now.place c.args.statement.now.kind _ c.in-SuchThat.is)

pub returns-in_ok-push_word-in-Objective : goal.returns-in_ok-push_word-in-Objective
returns-in_ok-push_word-in-Objective c =
    last2 _ _ _ _ _ _ _ c.in_ok-push_word-in-Objective.ensures c.push_expr-in-Objective.ensures (objective_pieces c.args.statement.now.place c.args.statement.now.kind _ _ _ c.in-Objective.is c.sense_word.ensures)

pub returns-in_ok-push_placed-in-Branching : goal.returns-in_ok-push_placed-in-Branching
returns-in_ok-push_placed-in-Branching c =
    last3 _ _ _ _ _ _ _ _ _ c.in_ok-push_words-in-Branching.ensures (rw c.deref-in-Branching.ensures.value at c.in_ok-push_placed-in-Branching.ensures) c.push_word-in-Branching.ensures (branching_pieces c.args.statement.now.place c.args.statement.now.kind _ c.in-Branching.is)

pub returns-in-Heuristic : goal.returns-in-Heuristic
returns-in-Heuristic c =
    last1 _ _ _ _ _ c.push_words-in-Heuristic.ensures (heuristic_pieces c.args.statement.now.place c.args.statement.now.kind _ _ c.in-Heuristic.is c.text-in-Heuristic.ensures.text)
