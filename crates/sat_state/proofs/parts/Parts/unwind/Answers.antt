use Rattle.std.proofs.Common.{◌-◌, ◌<◌, is_none, length, refl, sym, ap, ◌∙◌, arith}
use Rattle.std.proofs.lemmas.List.{length-map, take_all}
use Rattle.std.proofs.lemmas.List.Sums.{count_by-le-length}
use Rattle.sat_state.specs.Trail.{Entry, level_of}
use Rattle.sat_state.specs.Joined.{some_entry}
use Rattle.sat_state.specs.declared.parts.Queue.{Queue}
use Rattle.sat_state.proofs.Levels.{kept_all, kept_without_last, at_end_below, level_below, front_below}
use Rattle.sat_state.proofs.Grounds.{grounded_take}
use Rattle.sat_state.proofs.Going.{joined_back}
use Rattle.sat_state.proofs.parts.Parts.unwind.Goals as goal

pub pop-requires : goal.pop-requires
pop-requires c =
    let trail = c.above.self.assigned.trail in
    omega (arith, c.above-test.true, c.level.ensures, count_by-le-length (λ (e : Entry). is_none e.reason) trail)

pub above-preserved : goal.above-preserved
above-preserved c =
    let l = c.above in
    let trail = l.self.assigned.trail in
    let clauses = c.args.self.now.clauses.lists in
    let high : c.args.level < level_of trail = omega (arith, c.above-test.true, c.level.ensures) in
    let some : 0 < length trail = omega (arith, high, count_by-le-length (λ (e : Entry). is_none e.reason) trail) in
    let grounded = l.invariant.grounded in
    record {
      grounded = rw c.pop.ensures.trail (grounded_take clauses trail (length trail - 1) (omega arith) grounded);
      clauses = l.invariant.clauses;
      watches = l.invariant.watches;
      queue = l.invariant.queue;
      vars = c.pop.ensures.vars ∙ l.invariant.vars;
      reached = rw c.pop.ensures.trail (omega (arith, level_below trail some_entry some, high));
      front = rw c.pop.ensures.trail (front_below c.args.self.now.assigned.trail trail l.invariant.front some);
      kept = rw c.pop.ensures.trail (l.invariant.kept ∙ kept_without_last clauses trail some_entry c.args.level grounded some high);
      at_end = λ level. rw c.pop.ensures.trail (at_end_below clauses trail some_entry grounded some (omega (arith, ap level_of c.pop.ensures.trail, level, high)));
    }

pub above-init : goal.above-init
above-init c = record {
  grounded = c.requires.joined.grounded;
  clauses = refl;
  watches = refl;
  queue = refl;
  vars = refl;
  reached = omega (arith, c.requires.above);
  front = take_all (length c.args.self.now.assigned.trail) c.args.self.now.assigned.trail (omega arith);
  kept = refl;
  at_end = λ level. absurd (omega (arith, level, c.requires.above));
}

pub returns-clause-joined : goal.returns-clause-joined
returns-clause-joined c =
    let l = c.above in
    let old = c.args.self.now in
    let trail = l.self.assigned.trail in
    let kept = sym (l.invariant.kept ∙ kept_all old.clauses.lists trail c.args.level l.invariant.grounded (omega (arith, c.above-test.false, c.level.ensures))) in
    joined_back old _ c.args.level c.requires.joined c.requires.above l.invariant.grounded l.invariant.clauses l.invariant.watches (ap (λ (q : Queue). q.checked) l.invariant.queue)
    (ap length c.trail.ensures.value ∙ length-map trail (λ (e : Entry). e.literal)) (ap length c.trail.ensures.value ∙ length-map trail (λ (e : Entry). e.literal)) l.invariant.vars kept l.invariant.front

pub returns-clause-trail : goal.returns-clause-trail
returns-clause-trail c =
    let l = c.above in
    sym (l.invariant.kept ∙ kept_all c.args.self.now.clauses.lists l.self.assigned.trail c.args.level l.invariant.grounded (omega (arith, c.above-test.false, c.level.ensures)))
