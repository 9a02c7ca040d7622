use Rattle.std.proofs.Common.{ℕ, ◌+◌, None, ap, subst, IsSome}
use Rattle.cnf_core.specs.Literal.{Literal}
use Rattle.sat_state.specs.Trail.{literals, trail_value, level_of}
use Rattle.sat_search.proofs.Values.{stays_decided, value_decided}
use Rattle.sat_search.proofs.search.decide.Goals as goal

pub returns-in-Conflict-clause-stays : goal.returns-in-Conflict-clause-stays
returns-in-Conflict-clause-stays c = stays_decided c.args.state.now.trail c.decide.new.self.trail c.propagate.new.self.trail _ c.decide.ensures.trail c.propagate.ensures.front

pub returns-in-Conflict-clause-value : goal.returns-in-Conflict-clause-value
returns-in-Conflict-clause-value c = λ low high.
    subst (λ (v : ℕ). IsSome (trail_value (literals c.propagate.new.self.trail) v)) (ap (λ (l : Literal). l.var) c.new.ensures)
    (value_decided c.args.state.now.trail c.decide.new.self.trail c.propagate.new.self.trail (record { literal = c.new.result; level = level_of c.args.state.now.trail + 1; reason = None }) c.decide.ensures.trail c.propagate.ensures.front)

pub returns-in-Done-clause-stays : goal.returns-in-Done-clause-stays
returns-in-Done-clause-stays c = stays_decided c.args.state.now.trail c.decide.new.self.trail c.propagate.new.self.trail _ c.decide.ensures.trail c.propagate.ensures.front

pub returns-in-Done-clause-value : goal.returns-in-Done-clause-value
returns-in-Done-clause-value c = λ low high.
    subst (λ (v : ℕ). IsSome (trail_value (literals c.propagate.new.self.trail) v)) (ap (λ (l : Literal). l.var) c.new.ensures)
    (value_decided c.args.state.now.trail c.decide.new.self.trail c.propagate.new.self.trail (record { literal = c.new.result; level = level_of c.args.state.now.trail + 1; reason = None }) c.decide.ensures.trail c.propagate.ensures.front)
