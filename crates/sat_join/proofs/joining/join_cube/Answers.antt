-- Each goal is a lemma of Settings, read at the stage to which the function came.
use Rattle.std.proofs.Common.{◌≡◌, ℕ, ◌+◌, ◌<◌, ◌≤◌, List, [], ◌∷◌, ◌++◌, length, take, refl, ap, ◌∙◌, sym, subst, arith, Vec, Global}
use Rattle.std.proofs.lemmas.Bool.{eqb-true, eqb-false}
use Rattle.std.proofs.lemmas.List.{nil_from_length}
use Rattle.cnf_core.specs.Literal.{Literal}
use Rattle.cnf_core.specs.Events.{LogEvent, LogState, clause_of, event_at, step}
use Rattle.cnf_core.specs.Steps.{NonEmptyStepsAreEffective, NonEmptyStepsAreNew}
use Rattle.sat_join.specs.Joins.{ArePlaces, CanJoin, RefutesCubes, IsWidened, KeepsNew, Refutes}
use Rattle.sat_join.proofs.Growing.{IsJoining}
use Rattle.sat_join.proofs.Settings.{IsSet, set_up, begun, never_given, bounded, places_stand, more, more_new, last, some_more, never_ends}
use Rattle.sat_join.proofs.joining.join_cube.Goals as goal
use Rattle.sat_join.proofs.joining.join_cube.Goals.{After-events-events}

set : (c : After-events-events) → IsSet c.clauses-givens.result.now c.args.vars.now c.args.ends.now.items c.in_ok-literals.literals.items c.len-first.result c.events-events.result.now c.args.joined.now.events
set c =
    set_up c.clauses-givens.result.now c.args.formula.now.clauses c.args.vars.now c.args.ends.now.items c.in_ok-literals.literals.items c.len.result c.len-first.result c.events-events.result.now c.args.joined.now.events
    (subst (λ (es : List LogEvent). CanJoin c.args.formula.now.clauses c.args.vars.now c.args.ends.now.items es c.args.joined.now.events) (sym c.events-events.ensures.value) c.requires)
    c.clauses-givens.ensures.value c.in_ok-literals.ensures (omega (arith, c.len.ensures, c.args.ends.now.ok.0)) (c.len-first.ensures.value ∙ ap length c.events.ensures.value)

pub loop-place-init : goal.loop-place-init
loop-place-init c =
    let place : c.len-2.result + c.len-3.result ≡ length c.clauses-givens.result.now + length c.in_ok-literals.literals.items = omega (arith, c.len-2.ensures, c.len-3.ensures, c.in_ok-literals.literals.ok.0) in
    record {
      from = omega (arith, place);
      joining = begun (set (goal.at.loop-place-init c).After-events-events) (c.len-2.result + c.len-3.result) place;
      new_steps = λ effective before. before;
      some = λ k from below. absurd (omega (arith, from, below, place));
      ends = refl;
      notes = refl;
      base = refl;
    }

pub unreachable-requires : goal.unreachable-requires
unreachable-requires c =
    let below : c.loop-place.place < length c.events-events.result.now = omega (arith, c.loop-place-test.true, c.len-place-end.ensures.value) in
    never_given (set (goal.at.unreachable-requires c).After-events-events) c.loop-place.place c.loop-place.invariant.from below (c.in_default.ensures.given refl)

pub places_of-requires : goal.places_of-requires
places_of-requires c =
    let refuted = c.events-events.result.now in
    let below : c.loop-place.place < length refuted = omega (arith, c.loop-place-test.true, c.len-place-end.ensures.value) in
    bounded (set (goal.at.places_of-requires c).After-events-events) c.loop-place.place (clause_of (event_at refuted c.loop-place.place)) c.in-Some.hints.now below c.in-Some.ensures.step
    (omega (arith, c.len-first.ensures.few)) (omega (arith, c.len-place-end.ensures.value, c.len-place-end.ensures.few))

pub refute-requires : goal.refute-requires
refute-requires c =
    let refuted = c.events-events.result.now in
    let place = c.loop-place.place in
    let literals = c.in_ok-literals.literals.items in
    let below : place < length refuted = omega (arith, c.loop-place-test.true, c.len-place-end.ensures.value) in
    places_stand (set (goal.at.refute-requires c).After-events-events) place (clause_of (event_at refuted place)) c.in-Some.hints.now c.in_ok-places.places.items c.loop-place.joined.events below c.in-Some.ensures.step
    (subst (λ (v : Vec ℕ Global). IsJoining c.clauses-givens.result.now c.args.vars.now v.items literals c.len-first.result (take place refuted) c.loop-place.joined.events) c.loop-place.invariant.ends c.loop-place.invariant.joining)
    (subst (λ (ls : List Literal). ArePlaces c.clauses-givens.result.now ls c.len-first.result c.in-Some.hints.now c.in_ok-places.places.items) c.deref.ensures.value c.in_ok-places.ensures)

pub step-requires : goal.step-requires
step-requires c =
    let refuted = c.events-events.result.now in
    let place = c.loop-place.place in
    let literals = c.in_ok-literals.literals.items in
    let below : place < length refuted = omega (arith, c.loop-place-test.true, c.len-place-end.ensures.value) in
    places_stand (set (goal.at.step-requires c).After-events-events) place (clause_of (event_at refuted place)) c.in-Some.hints.now c.in_ok-places.places.items c.loop-place.joined.events below c.in-Some.ensures.step
    (subst (λ (v : Vec ℕ Global). IsJoining c.clauses-givens.result.now c.args.vars.now v.items literals c.len-first.result (take place refuted) c.loop-place.joined.events) c.loop-place.invariant.ends c.loop-place.invariant.joining)
    (subst (λ (ls : List Literal). ArePlaces c.clauses-givens.result.now ls c.len-first.result c.in-Some.hints.now c.in_ok-places.places.items) c.deref.ensures.value c.in_ok-places.ensures)

pub returns-then-is_empty-clause-joint : goal.returns-then-is_empty-clause-joint
returns-then-is_empty-clause-joint c =
    let givens = c.clauses-givens.result.now in
    let vars = c.args.vars.now in
    let refuted = c.events-events.result.now in
    let at = c.loop-place.place in
    let literals = c.in_ok-literals.literals.items in
    let place = c.in_ok-refute.field-0 in
    let below : at < length refuted = omega (arith, c.loop-place-test.true, c.len-place-end.ensures.value) in
    let none : clause_of (event_at refuted at) ≡ [] = sym c.clause-clause.ensures.value ∙ nil_from_length c.clause-clause.result.now (eqb-true _ 0 (sym c.is_empty.ensures ∙ c.if-is_empty.true)) in
    let both : RefutesCubes givens vars (c.args.ends.now.items ++ place ∷ []) c.refute.new.joined.events × KeepsNew c.loop-place.joined.events c.refute.new.joined.events =
    last (set (goal.at.returns-then-is_empty-clause-joint c).After-events-events) at (clause_of (event_at refuted at)) c.in-Some.hints.now c.in_ok-places.places.items c.loop-place.joined c.refute.new.joined place below c.in-Some.ensures.step
    (subst (λ (v : Vec ℕ Global). IsJoining givens vars v.items literals c.len-first.result (take at refuted) c.loop-place.joined.events) c.loop-place.invariant.ends c.loop-place.invariant.joining)
    (subst (λ (ls : List Literal). ArePlaces givens ls c.len-first.result c.in-Some.hints.now c.in_ok-places.places.items) c.deref.ensures.value c.in_ok-places.ensures)
    none
    (subst (λ (ls : List Literal). Refutes c.loop-place.joined c.refute.new.joined ls c.in_ok-places.places.items place) c.deref-then-is_empty.ensures.value c.in_ok-refute.ensures) in
    subst (λ (cs : List (List Literal)). RefutesCubes cs vars c.push.new.self.items c.refute.new.joined.events) c.clauses-givens.ensures.value
    (subst (λ (es : List ℕ). RefutesCubes givens vars es c.refute.new.joined.events)
    (sym (c.in_ok-push.ensures.items ∙ ap (λ (v : Vec ℕ Global). v.items ++ place ∷ []) c.loop-place.invariant.ends)) both.0)

pub returns-then-is_empty-clause-new : goal.returns-then-is_empty-clause-new
returns-then-is_empty-clause-new c =
    let givens = c.clauses-givens.result.now in
    let vars = c.args.vars.now in
    let refuted = c.events-events.result.now in
    let at = c.loop-place.place in
    let literals = c.in_ok-literals.literals.items in
    let place = c.in_ok-refute.field-0 in
    let below : at < length refuted = omega (arith, c.loop-place-test.true, c.len-place-end.ensures.value) in
    let none : clause_of (event_at refuted at) ≡ [] = sym c.clause-clause.ensures.value ∙ nil_from_length c.clause-clause.result.now (eqb-true _ 0 (sym c.is_empty.ensures ∙ c.if-is_empty.true)) in
    let both : RefutesCubes givens vars (c.args.ends.now.items ++ place ∷ []) c.refute.new.joined.events × KeepsNew c.loop-place.joined.events c.refute.new.joined.events =
    last (set (goal.at.returns-then-is_empty-clause-new c).After-events-events) at (clause_of (event_at refuted at)) c.in-Some.hints.now c.in_ok-places.places.items c.loop-place.joined c.refute.new.joined place below c.in-Some.ensures.step
    (subst (λ (v : Vec ℕ Global). IsJoining givens vars v.items literals c.len-first.result (take at refuted) c.loop-place.joined.events) c.loop-place.invariant.ends c.loop-place.invariant.joining)
    (subst (λ (ls : List Literal). ArePlaces givens ls c.len-first.result c.in-Some.hints.now c.in_ok-places.places.items) c.deref.ensures.value c.in_ok-places.ensures)
    none
    (subst (λ (ls : List Literal). Refutes c.loop-place.joined c.refute.new.joined ls c.in_ok-places.places.items place) c.deref-then-is_empty.ensures.value c.in_ok-refute.ensures) in
    λ effective before. both.1 (c.loop-place.invariant.new_steps effective before)

pub loop-place-preserved : goal.loop-place-preserved
loop-place-preserved c =
    let givens = c.clauses-givens.result.now in
    let vars = c.args.vars.now in
    let refuted = c.events-events.result.now in
    let place = c.loop-place.place in
    let literals = c.in_ok-literals.literals.items in
    let s = set (goal.at.loop-place-preserved c).After-events-events in
    let clause = clause_of (event_at refuted place) in
    let hints = c.in-Some.hints.now in
    let places = c.in_ok-places.places.items in
    let inv = c.loop-place.invariant in
    let joined = c.loop-place.joined.events in
    let wide = c.in_ok-widened.field-0 in
    let below : place < length refuted = omega (arith, c.loop-place-test.true, c.len-place-end.ensures.value) in
    let long : 0 < length c.clause-clause.result.now = omega (arith, eqb-false _ 0 (sym c.is_empty.ensures ∙ c.if-is_empty.false)) in
    let some : 0 < length clause = subst (λ (ls : List Literal). 0 < length ls) c.clause-clause.ensures.value long in
    let now = c.in_ok-step.ensures.ok in
    let same : IsWidened c.deref-in-loop-place.result.now c.clause-clause.result.now wide = c.in_ok-widened.ensures.same in
    let widened = subst (λ (ls : List Literal). IsWidened literals ls wide) c.clause-clause.ensures.value (subst (λ (ls : List Literal). IsWidened ls c.clause-clause.result.now wide) c.deref-in-loop-place.ensures.value same) in
    record {
      from = omega (arith, inv.from);
      joining = subst (IsJoining givens vars c.loop-place.ends.items literals c.len-first.result (take (place + 1) refuted)) (sym (ap (λ (l : LogState). l.events) now))
          (subst (λ (v : Vec ℕ Global). IsJoining givens vars v.items literals c.len-first.result (take (place + 1) refuted) (joined ++ step wide places ∷ [])) (sym inv.ends)
          (more s place clause hints places joined wide below c.in-Some.ensures.step
          (subst (λ (v : Vec ℕ Global). IsJoining givens vars v.items literals c.len-first.result (take place refuted) joined) inv.ends inv.joining)
          (subst (λ (ls : List Literal). ArePlaces givens ls c.len-first.result hints places) c.deref.ensures.value c.in_ok-places.ensures)
          c.in_ok-widened.ensures.clause widened));
      new_steps = λ effective before.
          subst (λ (l : LogState). NonEmptyStepsAreNew l.events) (sym now)
          (more_new s place clause hints places joined wide below c.in-Some.ensures.step
          (subst (λ (v : Vec ℕ Global). IsJoining givens vars v.items literals c.len-first.result (take place refuted) joined) inv.ends inv.joining)
          some widened (subst NonEmptyStepsAreEffective (sym c.events-events.ensures.value) effective) (inv.new_steps effective before));
      some = some_more s place clause hints c.in-Some.ensures.step some inv.some;
      ends = inv.ends;
      notes = ap (λ (l : LogState). l.notes) now ∙ inv.notes;
      base = ap (λ (l : LogState). l.base) now ∙ inv.base;
    }

pub unreachable-requires-2 : goal.unreachable-requires-2
unreachable-requires-2 c =
    let all : length c.events-events.result.now ≤ c.loop-place.place = omega (arith, c.loop-place-test.false, c.len-place-end.ensures.value) in
    never_ends (set (goal.at.unreachable-requires-2 c).After-events-events) c.loop-place.place all c.loop-place.invariant.some
