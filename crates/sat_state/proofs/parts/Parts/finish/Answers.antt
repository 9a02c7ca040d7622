use Rattle.std.proofs.Common.{List, sym, subst}
use Rattle.cnf_core.specs.Literal.{Literal}
use Rattle.cnf_core.specs.Steps.{IsAtEnd}
use Rattle.sat_state.specs.Trail.{Entry, literals, IsGrounded}
use Rattle.sat_state.proofs.Finished.{no_more, no_conflict}
use Rattle.sat_state.proofs.parts.Parts.finish.Goals as goal

pub returns-clause-trail : goal.returns-clause-trail
returns-clause-trail c =
    let g = c.propagate.ensures.goes in
    let now = c.propagate.new.self in
    no_more c.args.self.now.clauses.lists c.args.self.now.assigned.trail now.assigned.trail
    (subst (λ (cs : List (List Literal)). IsGrounded cs now.assigned.trail) g.clauses g.joined.grounded) g.front g.level c.requires.at_end

pub returns-clause-seen : goal.returns-clause-seen
returns-clause-seen c =
    let g = c.propagate.ensures.goes in
    let now = c.propagate.new.self in
    let same = no_more c.args.self.now.clauses.lists c.args.self.now.assigned.trail now.assigned.trail
    (subst (λ (cs : List (List Literal)). IsGrounded cs now.assigned.trail) g.clauses g.joined.grounded) g.front g.level c.requires.at_end in
    let ends : IsAtEnd (literals now.assigned.trail) now.clauses.lists
    = subst (λ (t : List Entry). IsAtEnd (literals t) now.clauses.lists) (sym same) (subst (λ (cs : List (List Literal)). IsAtEnd (literals c.args.self.now.assigned.trail) cs) (sym g.clauses) c.requires.at_end) in
    c.propagate.ensures.done (no_conflict c.propagate.result now.clauses.lists now.assigned.trail ends c.propagate.ensures.falsified)
