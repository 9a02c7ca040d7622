use Rattle.std.proofs.Common.{◌≡◌, is_some, ap}
use Rattle.cnf_core.specs.Steps.{IsAtEnd}
use Rattle.sat_state.specs.Trail.{literals}
use Rattle.sat_state.specs.declared.state.Propagated.TheVariants.{Done}
use Rattle.sat_state.specs.View.{StateView}
use Rattle.sat_state.proofs.Ends.{all_forced, none_falsified, none_unit}
use Rattle.sat_state.proofs.Finished.{seen_at_end}
use Rattle.sat_state.proofs.state.State.propagate.Goals as goal
use Rattle.sat_state.proofs.state.State.propagate.Goals.{in-Some, in-None, Joined-propagate}

pub returns-clause-forced : goal.returns-clause-forced
returns-clause-forced c =
    let a = c.self.inside in
    let p = c.propagate in
    let seen = ap (λ (x : StateView). x.trail) c.self.view_is in
    rw (← seen) (all_forced p.new.self.clauses.lists a.parts.assigned.trail p.new.self.assigned.trail p.ensures.goes.joined.grounded p.ensures.goes.front p.ensures.goes.level)

-- where propagation answers that it is done, it is at its end
at_end : (c : Joined-propagate) → c.match-propagate.result ≡ Done → IsAtEnd (literals c.propagate.new.self.assigned.trail) c.propagate.new.self.clauses.lists
at_end c done = elim c.match-propagate.branch [
  | in-Some w ↦ let never : ⊥ = cc (done, w.result-is) in absurd never
  | in-None w ↦ c.propagate.ensures.at_end (ap is_some w.in-None.is)
]

pub returns-clause-seen : goal.returns-clause-seen
returns-clause-seen c = λ done. elim c.match-propagate.branch [
  | in-Some w ↦ let never : ⊥ = cc (done, w.result-is) in absurd never
  | in-None w ↦ seen_at_end c.propagate.new.self (c.propagate.ensures.done (ap is_some w.in-None.is))
]

pub returns-clause-none_falsified : goal.returns-clause-none_falsified
returns-clause-none_falsified c = λ done. none_falsified (literals c.propagate.new.self.assigned.trail) c.propagate.new.self.clauses.lists (at_end c done)

pub returns-clause-none_unit : goal.returns-clause-none_unit
returns-clause-none_unit c = λ done. none_unit (literals c.propagate.new.self.assigned.trail) c.propagate.new.self.clauses.lists (at_end c done)
