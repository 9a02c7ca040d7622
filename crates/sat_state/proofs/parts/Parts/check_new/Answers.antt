use Rattle.std.proofs.Common.{◌≡◌, ◌<◌, ◌⊎◌, ℕ, length, refl, sym, ap, subst, arith}
use Rattle.cnf_core.specs.Steps.{HasTrueLiteral, HasTwoNotFalse}
use Rattle.sat_state.specs.Trail.{literals}
use Rattle.sat_state.specs.Stored.{clause_at}
use Rattle.sat_state.specs.declared.parts.Queue.{Queue}
use Rattle.sat_state.proofs.Going.{goes_again, goes_checked}
use Rattle.sat_state.proofs.parts.Parts.check_new.Goals as goal

pub loop-self-preserved : goal.loop-self-preserved
loop-self-preserved c =
    let now = c.settle.new.self in
    let at : now.queue.checked ≡ c.loop-self.self.queue.checked = ap (λ (q : Queue). q.checked) c.settle.ensures.queue in
    let there : now.queue.checked < length now.clauses.lists = omega (arith, at, c.loop-self-test.true, c.len.ensures, ap length c.settle.ensures.goes.clauses) in
    let settled = subst (λ (n : ℕ). HasTrueLiteral (literals now.assigned.trail) (clause_at now.clauses.lists n) ⊎ HasTwoNotFalse (literals now.assigned.trail) (clause_at now.clauses.lists n)) (sym at)
    (c.settle.ensures.settled c.if-not-settle.false) in
    goes_again c.args.self.now now _ (goes_again c.args.self.now c.loop-self.self now c.loop-self.invariant c.settle.ensures.goes) (goes_checked now c.settle.ensures.goes.joined there settled _ refl)
