use Rattle.std.proofs.Common.{◌<◌, List, [], length, sym, ap, subst}
use Rattle.std.proofs.lemmas.List.Elements.{All-get_or}
use Rattle.cnf_core.specs.Literal.{Literal, IsClause}
use Rattle.sat_state.specs.View.{StateView}
use Rattle.sat_state.specs.Stored.{clause_at}
use Rattle.sat_state.proofs.state.State.literals.Goals as goal
use Rattle.sat_state.proofs.state.State.literals.Goals.{After-lits}

is_clause : (c : After-lits) → IsClause c.lits.result.now
is_clause c =
    let lists = c.self.inside.parts.clauses.lists in
    let there : c.args.number < length lists = subst (λ (ls : List (List Literal)). c.args.number < length ls) (sym (ap (λ (s : StateView). s.clauses) c.self.view_is)) c.requires in
    let here : IsClause (clause_at lists c.args.number) = All-get_or IsClause lists c.args.number [] there c.self.invariant.clauses in
    subst IsClause (sym c.lits.ensures) here

pub returns-clause-ordered : goal.returns-clause-ordered
returns-clause-ordered c = (is_clause c).ordered

pub returns-clause-variables : goal.returns-clause-variables
returns-clause-variables c = (is_clause c).variables
