use Rattle.std.proofs.Common.{◌≡◌, ◌∙◌, ◌+◌, ◌<◌, ◌≤◌, ℕ, Bool, true, List, length, get_or, refl, sym, ap, subst, inl}
use Rattle.std.proofs.lemmas.List.{get_or-map}
use Rattle.cnf_core.specs.Literal.{Literal, negation}
use Rattle.sat_state.specs.Trail.{Entry, literals}
use Rattle.sat_state.specs.Watching.{lit_at, far_at}
use Rattle.sat_state.specs.Joined.{some_entry, place_in_queue}
use Rattle.sat_state.specs.declared.parts.Queue.{Queue}
use Rattle.sat_state.proofs.Literals.{negation-negation}
use Rattle.sat_state.proofs.Going.{goes_again, goes_same, no_fewer, stands_still, room_still, goes_walked, IsStep, far_step}
use Rattle.sat_state.proofs.parts.Parts.walk.Goals as goal

pub walk-init : goal.walk-init
walk-init c =
    let old = c.args.self.now in
    let trail = old.assigned.trail in
    let s = c.start.ensures in
    let k = place_in_queue old.queue c.args.far in
    let x = c.index-trail-place.result in
    let read : x ≡ get_or (literals trail) k x
    = c.index-trail-place.is ∙ ap (λ (ls : List Literal). get_or ls c.place.result x) c.trail.ensures.value ∙ ap (λ (n : ℕ). get_or (literals trail) n x) c.place.ensures in
    let there : (get_or trail k some_entry).literal ≡ x = sym (get_or-map (λ (e : Entry). e.literal) trail k some_entry x c.requires.more) ∙ sym read in
    let back : negation c.start.new.self.walked ≡ x = ap negation (s.walked ∙ c.negated-lit.ensures ∙ ap negation c.lit.ensures) ∙ negation-negation x in
    record {
      goes = goes_same old _ c.requires.joined refl s.lits s.fars (no_fewer _ _ s.lists) (stands_still _ _ _ _ s.stands) (room_still _ _ s.stands) refl refl;
      walking = record {
        checked = c.requires.checked;
        more = subst (λ (b : Bool). place_in_queue old.queue b < length trail) (sym s.walks_far) c.requires.more;
        some = subst (λ (l : Literal). 1 ≤ l.var) (sym s.walked) s.some;
        walked = ap (λ (b : Bool). (get_or trail (place_in_queue old.queue b) some_entry).literal) s.walks_far ∙ there ∙ sym back;
        satisfied = λ e in_walk.
            inl (s.all e (subst (λ (ls : List Literal). e < length ls) s.lits in_walk.there) (ap (λ (ls : List Literal). lit_at ls e) (sym s.lits) ∙ in_walk.literal ∙ s.walked)
            (ap (λ (fs : List Bool). far_at fs e) (sym s.fars) ∙ in_walk.tier ∙ s.walks_far));
      };
      queue = refl;
      literal = s.walked;
      far = s.walks_far;
    }

pub returns-then-far-clause-goes : goal.returns-then-far-clause-goes
returns-then-far-clause-goes c =
    let old = c.walk.self in
    let goes = c.walk.invariant.goes in
    let far : old.watches.walks_far ≡ true = c.walk.invariant.far ∙ c.if-far.true in
    let queue : Queue = record { checked = old.queue.checked; head = old.queue.head; far = old.queue.far + 1 } in
    let step : IsStep old.watches.walks_far old.queue queue = subst (λ (t : Bool). IsStep t old.queue queue) (sym far) (far_step old.queue) in
    goes_again c.args.self.now old _ goes (goes_walked old goes.joined c.walk.invariant.walking (c.in_default.ensures.none refl) queue step _ refl)

pub pass_near-requires-clause-walked : goal.pass_near-requires-clause-walked
pass_near-requires-clause-walked c = c.walk.invariant.literal

pub pass_near-requires-clause-near : goal.pass_near-requires-clause-near
pass_near-requires-clause-near c = c.walk.invariant.far ∙ c.if-far.false

pub pass_near-requires-clause-none : goal.pass_near-requires-clause-none
pass_near-requires-clause-none c = c.in_default.ensures.none refl

pub returns-else-far-clause-goes : goal.returns-else-far-clause-goes
returns-else-far-clause-goes c = goes_again c.args.self.now c.walk.self _ c.walk.invariant.goes c.pass_near.ensures.goes
