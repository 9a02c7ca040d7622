use Rattle.std.proofs.Common.{◌+◌, ◌*◌, ◌<◌, ◌≤◌, true, false, length, sym, ap, ◌∙◌, arith}
use Rattle.std.proofs.lemmas.List.{length-map}
use Rattle.sat_state.specs.Trail.{Entry}
use Rattle.sat_state.proofs.parts.Parts.follow.Goals as goal
use Rattle.sat_state.proofs.parts.Parts.follow.Goals.{then-self-trail, else-self-trail+then-self-trail-2}

pub follow-smaller : goal.follow-smaller
follow-smaller c =
    let p = c.follow.self in
    let j = c.follow.invariant.goes.joined in
    let near : p.queue.head ≤ length p.assigned.trail = j.head_in false in
    let far : p.queue.far ≤ length p.assigned.trail = j.head_in true in
    let few : length p.assigned.trail ≤ p.assigned.vars = c.trail.ensures.few in
    let size = length-map p.assigned.trail (λ (e : Entry). e.literal) in
    let more : p.queue.head + p.queue.far < 2 * p.assigned.vars = elim c.if-self-trail.branch [
      | then-self-trail w ↦ omega (arith, w.if-self-trail.true, ap length c.trail.ensures.value, size, few, near, far)
      | else-self-trail+then-self-trail-2 w ↦ omega (arith, w.if-self-trail-2.true, ap length w.trail-else-self-trail.ensures.value, size, few, near, far)
    ] in
    omega (arith, more, c.walk-falsified.ensures.done (sym c.is_some.ensures ∙ c.if-is_some.false), c.walk-falsified.ensures.goes.vars)
