use Rattle.std.proofs.Common.{◌≡◌, ◌∙◌, ◌+◌, ◌<◌, ◌≤◌, ℕ, Bool, true, false, List, length, get_or, refl, sym, ap, subst, arith}
use Rattle.std.proofs.lemmas.Bool.{false≢true}
use Rattle.cnf_core.specs.Literal.{Literal, negation, code_of}
use Rattle.sat_state.specs.Joined.{GoesOn, some_entry, place_in_queue}
use Rattle.sat_state.specs.declared.parts.Queue.{Queue}
use Rattle.sat_state.specs.declared.parts.Parts.{Parts}
use Rattle.sat_state.proofs.Going.{goes_again, goes_passed, goes_walked, IsStep, near_step, far_step, walked_listed}
use Rattle.sat_state.proofs.parts.Parts.pass_near.Goals as goal

pub has_no_far-requires : goal.has_no_far-requires
has_no_far-requires c =
    let old = c.args.self.now in
    let known = subst (λ (ls : List Literal). Rattle.std.proofs.Common.All (λ (l : Literal). l.var ≤ old.assigned.vars) ls) c.trail-trail.ensures.value c.trail-trail.ensures.known in
    record { known = subst (λ (l : Literal). code_of l < old.watches.lists) c.requires.walked (walked_listed old c.requires.joined c.requires.walking known) }

pub returns-then-has_no_far-clause-goes : goal.returns-then-has_no_far-clause-goes
returns-then-has_no_far-clause-goes c =
    let old = c.args.self.now in
    let trail = old.assigned.trail in
    let w = c.requires.walking in
    let near : Queue = record { checked = old.queue.checked; head = old.queue.head + 1; far = old.queue.far } in
    let both : Queue = record { checked = old.queue.checked; head = old.queue.head + 1; far = old.queue.far + 1 } in
    let mid : Parts = record old { queue = near } in
    let one : GoesOn old mid
    = goes_walked old c.requires.joined w c.requires.none near (subst (λ (t : Bool). IsStep t old.queue near) (sym c.requires.near) (near_step old.queue)) mid refl in
    let beside : old.queue.far ≡ old.queue.head = c.if-self-place.true in
    let more : old.queue.head < length trail = subst (λ (t : Bool). place_in_queue old.queue t < length trail) c.requires.near w.more in
    let at : (get_or trail old.queue.head some_entry).literal ≡ negation old.watches.walked
    = subst (λ (t : Bool). (get_or trail (place_in_queue old.queue t) some_entry).literal ≡ negation old.watches.walked) c.requires.near w.walked in
    goes_again old mid _ one
    (goes_passed mid one.joined w.checked true (omega (arith, beside, more)) old.watches.walked (ap (λ (n : ℕ). (get_or trail n some_entry).literal) beside ∙ at)
    (λ e far lt same. absurd (false≢true (sym (c.has_no_far.ensures c.if-has_no_far.true e lt (same ∙ c.requires.walked)) ∙ far))) both (far_step near) _ refl)

pub returns-else-self-place-clause-goes : goal.returns-else-self-place-clause-goes
returns-else-self-place-clause-goes c =
    let old = c.args.self.now in
    let near : Queue = record { checked = old.queue.checked; head = old.queue.head + 1; far = old.queue.far } in
    goes_walked old c.requires.joined c.requires.walking c.requires.none near (subst (λ (t : Bool). IsStep t old.queue near) (sym c.requires.near) (near_step old.queue)) _ refl
