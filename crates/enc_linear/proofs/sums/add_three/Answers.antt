use Rattle.std.proofs.Common.{◌≡◌, List, ◌+ℤ◌, ◌≤ℤ◌, ◌<◌, ◌∙◌, sym, ap, subst, length, get_or, pos, arith, rules, to_z, of_z}
use Rattle.std.specs.Int.{w128}
use Rattle.std.proofs.lemmas.Int.{ints, to_z-of_z}
use Rattle.std.proofs.lemmas.List.Elements.{Contains-get_or}
use Rattle.std.specs.List.{Contains}
use Rattle.enc_linear.specs.declared.terms.Step.{Step}
use Rattle.enc_linear.specs.Guards.{Unless}
use Rattle.enc_linear.specs.Terms.{worth_of}
use Rattle.enc_linear.proofs.Arising.{term_later}
use Rattle.enc_linear.proofs.Clipping.{worth_within}
use Rattle.enc_linear.proofs.Ladders.{gives}
use Rattle.enc_linear.proofs.Saying.{names_more}
use Rattle.enc_linear.proofs.Spreading.{HasRoom, Spread, spread_beyond, spread_enough, spread_said, spread_turn}
use Rattle.enc_linear.proofs.Turns.{all_turns_beside, begun_beside}
use Rattle.enc_linear.proofs.sums.add_three.Goals as goal

pub loop-step-init : goal.loop-step-init
loop-step-init c =
    begun_beside c.args.layout.now c.args.f.now c.add_one.new.f (HasRoom c.args.guards.now c.args.first.now _) (Spread c.args.guards.now c.args.first.now (λ vs. worth_of vs c.args.second.now +ℤ worth_of vs c.args.third.now) _) c.args.first.now.steps.items c.requires.is_layout c.in_ok-add_one.ensures

pub loop-step-preserved-then-room-step : goal.loop-step-preserved-then-room-step
loop-step-preserved-then-room-step c =
    let d : Step = record { value = pos 0; worth = pos 0 } in
    let items = c.deref-step-items.result.now in
    let i = c.loop-step.step-index in
    let step : Step = get_or items i d in
    let w : to_z w128 (of_z w128 step.worth) ≡ step.worth = to_z-of_z w128 step.worth (search rules) in
    let long : length items ≡ length c.args.first.now.steps.items = ap length c.deref-step-items.ensures.value in
    let low : i < length c.args.first.now.steps.items = omega (arith, long, c.loop-step-test.true) in
    spread_beyond c.args.layout.now c.args.f.now c.loop-step.f c.args.guards.now c.args.first.now (λ vs. worth_of vs c.args.second.now +ℤ worth_of vs c.args.third.now) _ _ step d i c.requires.is_layout low (ap (λ (xs : List Step). get_or xs i d) c.deref-step-items.ensures.value) c.loop-step.invariant
    (omega (arith, ints, w, c.if-room-step.true))

pub loop-step-preserved-then-is_enough : goal.loop-step-preserved-then-is_enough
loop-step-preserved-then-is_enough c =
    let d : Step = record { value = pos 0; worth = pos 0 } in
    let items = c.deref-step-items.result.now in
    let i = c.loop-step.step-index in
    let step : Step = get_or items i d in
    let w : to_z w128 (of_z w128 step.worth) ≡ step.worth = to_z-of_z w128 step.worth (search rules) in
    let long : length items ≡ length c.args.first.now.steps.items = ap length c.deref-step-items.ensures.value in
    let low : i < length c.args.first.now.steps.items = omega (arith, long, c.loop-step-test.true) in
    let g = gives _ _ _ c.in_ok-left.left c.checked_sub.ensures c.in_ok-left.ensures.ok_part in
    let l : to_z w128 (of_z w128 c.in_ok-left.left) ≡ c.in_ok-left.left = to_z-of_z w128 c.in_ok-left.left (search rules) in
    spread_enough c.args.layout.now c.args.f.now c.loop-step.f c.args.guards.now c.args.first.now (λ vs. worth_of vs c.args.second.now +ℤ worth_of vs c.args.third.now) _ _ c.in_ok-rest.rest.greatest step d i c.requires.is_layout low (ap (λ (xs : List Step). get_or xs i d) c.deref-step-items.ensures.value) c.loop-step.invariant
    (λ values among. let a = worth_within c.args.layout.now c.args.f.now c.args.second.now values c.requires.second among in let b = worth_within c.args.layout.now c.args.f.now c.args.third.now values c.requires.third among in omega (arith, ints, a.1, b.1, c.in_ok-rest.ensures.least, c.in_ok-rest.ensures.greatest))
    (omega (arith, ints, w, g, l, sym c.is_enough.ensures ∙ c.if-is_enough.true))

pub less_than-requires-clause-step : goal.less_than-requires-clause-step
less_than-requires-clause-step c =
    let d : Step = record { value = pos 0; worth = pos 0 } in
    subst (λ (xs : List Step). Contains xs (get_or c.deref-step-items.result.now c.loop-step.step-index d)) c.deref-step-items.ensures.value
    (Contains-get_or c.deref-step-items.result.now c.loop-step.step-index d c.loop-step-test.true)

pub add_two-requires-clause-from_new : goal.add_two-requires-clause-from_new
add_two-requires-clause-from_new c = c.loop-step.invariant.goes_on.from_new

pub add_two-requires-clause-is_layout : goal.add_two-requires-clause-is_layout
add_two-requires-clause-is_layout c = c.loop-step.invariant.goes_on.is_layout

pub add_two-requires-clause-guards : goal.add_two-requires-clause-guards
add_two-requires-clause-guards c =
    names_more (length c.args.layout.now) c.args.guards.now c.deref.result.now c.in_ok-less.less c.requires.guards (c.in_ok-less.ensures.names (length c.args.layout.now) c.requires.first.names) (c.deref.ensures.value ∙ c.in_ok-atoms.ensures)

pub add_two-requires-clause-first : goal.add_two-requires-clause-first
add_two-requires-clause-first c = term_later c.args.layout.now c.args.f.now c.args.layout.now c.loop-step.f c.args.second.now c.loop-step.invariant.goes_on c.requires.second

pub add_two-requires-clause-second : goal.add_two-requires-clause-second
add_two-requires-clause-second c = term_later c.args.layout.now c.args.f.now c.args.layout.now c.loop-step.f c.args.third.now c.loop-step.invariant.goes_on c.requires.third

pub loop-step-preserved : goal.loop-step-preserved
loop-step-preserved c =
    let d : Step = record { value = pos 0; worth = pos 0 } in
    let items = c.deref-step-items.result.now in
    let i = c.loop-step.step-index in
    let step : Step = get_or items i d in
    let w : to_z w128 (of_z w128 step.worth) ≡ step.worth = to_z-of_z w128 step.worth (search rules) in
    let long : length items ≡ length c.args.first.now.steps.items = ap length c.deref-step-items.ensures.value in
    let low : i < length c.args.first.now.steps.items = omega (arith, long, c.loop-step-test.true) in
    let g = gives _ _ _ c.in_ok-left.left c.checked_sub.ensures c.in_ok-left.ensures.ok_part in
    spread_turn c.args.layout.now c.args.f.now c.loop-step.f c.add_two.new.f c.args.guards.now c.deref.result.now c.in_ok-less.less c.args.first.now (λ vs. worth_of vs c.args.second.now +ℤ worth_of vs c.args.third.now) _ _ _ step d i
    c.requires.is_layout c.requires.first low (ap (λ (xs : List Step). get_or xs i d) c.deref-step-items.ensures.value) c.in_ok-less.ensures (c.deref.ensures.value ∙ c.in_ok-atoms.ensures)
    c.loop-step.invariant c.in_ok-add_two.ensures (omega (arith, ints, g, w))

pub returns : goal.returns
returns c =
    let long : length c.deref-step-items.result.now ≡ length c.args.first.now.steps.items = ap length c.deref-step-items.ensures.value in
    let room : to_z w128 (of_z w128 c.in_ok-room.room) ≡ c.in_ok-room.room = to_z-of_z w128 c.in_ok-room.room (search rules) in
    all_turns_beside c.args.layout.now c.args.f.now c.loop-step.f (HasRoom c.args.guards.now c.args.first.now _) (Spread c.args.guards.now c.args.first.now (λ vs. worth_of vs c.args.second.now +ℤ worth_of vs c.args.third.now) _)
    (Unless c.args.guards.now (λ values. (worth_of values c.args.first.now +ℤ (worth_of values c.args.second.now +ℤ worth_of values c.args.third.now)) ≤ℤ c.args.most))
    c.args.first.now.steps.items c.loop-step.step-index c.requires.is_layout (omega (arith, long, c.loop-step-test.false)) c.loop-step.invariant
    (λ values among. let a = worth_within c.args.layout.now c.args.f.now c.args.second.now values c.requires.second among in let b = worth_within c.args.layout.now c.args.f.now c.args.third.now values c.requires.third among in
    spread_said c.args.layout.now c.args.f.now c.args.guards.now c.args.first.now (λ vs. worth_of vs c.args.second.now +ℤ worth_of vs c.args.third.now) _ c.in_ok-rest.rest.least _ c.args.most values c.requires.first among (omega (arith, ints))
    (omega (arith, ints, a.0, b.0, c.in_ok-rest.ensures.least, c.in_ok-rest.ensures.greatest)) (omega (arith, ints, room, c.in_ok-room.ensures)))
