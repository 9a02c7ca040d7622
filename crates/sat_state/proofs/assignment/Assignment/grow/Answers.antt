use Rattle.std.proofs.Common.{◌≡◌, ◌-◌, Option, List, replicate, ◌++◌, vec_capacity, vec_len, None, ap, ◌∙◌, arith}
use Rattle.std.proofs.lemmas.List.{take_all}
use Rattle.sat_state.specs.Assigned.{TrailState, Origin}
use Rattle.sat_state.proofs.Tables.{grown, entries-append}
use Rattle.sat_state.proofs.assignment.Assignment.grow.Goals as goal
use Rattle.sat_state.proofs.assignment.Assignment.grow.Goals.{In_ok-resize}

slots_are : (c : In_ok-resize) → c.resize.new.self.items ≡ c.self.inside.slots.items ++ replicate (c.in_ok-wanted.wanted - vec_len c.self.inside.slots) None
slots_are c =
    let a = c.self.inside in
    c.in_ok-resize.ensures.items ∙ ap (λ (front : List (Option Origin)). front ++ replicate (c.in_ok-wanted.wanted - vec_len a.slots) c.none.result) (take_all c.in_ok-wanted.wanted a.slots.items (omega (arith, a.slots.ok.0)))
    ∙ ap (λ (o : Option Origin). a.slots.items ++ replicate (c.in_ok-wanted.wanted - vec_len a.slots) o) c.none.ensures

pub invariant_of-self-2 : goal.invariant_of-self-2
invariant_of-self-2 c =
    let a = c.self.inside in
    let more = c.in_ok-wanted.wanted - vec_len a.slots in
    rw (slots_are c, c.in_ok-reserve.ensures.items)
    (grown a.slots.items a.trail.items a.level (vec_capacity a.trail) more (vec_capacity c.reserve.new.self) c.self.invariant (omega (arith, a.slots.ok.0, c.in_ok-reserve.ensures.ok)) (omega (arith, a.slots.ok.0)))

pub returns-clause-trail : goal.returns-clause-trail
returns-clause-trail c =
    let a = c.self.inside in
    let more = c.in_ok-wanted.wanted - vec_len a.slots in
    rw (slots_are c, c.in_ok-reserve.ensures.items)
    (entries-append a.slots.items (replicate more None) a.trail.items c.self.invariant.in_range ∙ ap (λ (x : TrailState). x.trail) c.self.view_is)
