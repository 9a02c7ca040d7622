use Rattle.std.proofs.Common.{◌≡◌, List, ◌+ℤ◌, ◌≢◌, ◌<◌, ◌∙◌, sym, ap, subst, length, get_or, pos, arith, rules, to_z, of_z, w64}
use Rattle.std.specs.Int.{w128}
use Rattle.std.proofs.lemmas.Int.{ints, to_z-of_z}
use Rattle.std.specs.List.{All}
use Rattle.enc_linear.specs.declared.terms.Step.{Step}
use Rattle.enc_linear.specs.Guards.{Unless}
use Rattle.enc_linear.specs.Terms.{worth_of}
use Rattle.enc_linear.proofs.Clipping.{worth_within}
use Rattle.enc_linear.proofs.Ladders.{gives}
use Rattle.enc_linear.proofs.Arising.{term_later}
use Rattle.enc_linear.specs.Sources.{AreGuardsOrOther}
use Rattle.enc_atoms.specs.declared.atoms.Atom.{Atom}
use Rattle.enc_linear.proofs.Parting.{Parted, parted_all, parted_passed, parted_turn}
use Rattle.enc_linear.proofs.Turns.{all_turns, begun}
use Rattle.enc_linear.proofs.apart.add_three_apart.Goals as goal

pub loop-step-init : goal.loop-step-init
loop-step-init c = begun c.args.layout.now c.args.f.now (Parted c.args.guards.now c.args.first.now (λ vs. worth_of vs c.args.second.now +ℤ worth_of vs c.args.third.now) _) c.args.first.now.steps.items c.requires.is_layout c.requires.from_new

pub loop-step-preserved-then-is_under : goal.loop-step-preserved-then-is_under
loop-step-preserved-then-is_under c =
    let d : Step = record { value = pos 0; worth = pos 0 } in
    let items = c.deref-step-items.result.now in
    let i = c.loop-step.step-index in
    let step : Step = get_or items i d in
    let w : to_z w128 (of_z w128 step.worth) ≡ step.worth = to_z-of_z w128 step.worth (search rules) in
    let long : length items ≡ length c.args.first.now.steps.items = ap length c.deref-step-items.ensures.value in
    let low : i < length c.args.first.now.steps.items = omega (arith, long, c.loop-step-test.true) in
    let g = gives _ _ _ c.in_ok-left.left c.checked_sub.ensures c.in_ok-left.ensures.ok_part in
    let l : to_z w128 (of_z w128 c.in_ok-left.left) ≡ c.in_ok-left.left = to_z-of_z w128 c.in_ok-left.left (search rules) in
    parted_passed c.args.layout.now c.args.f.now c.loop-step.f c.args.guards.now c.args.first.now (λ vs. worth_of vs c.args.second.now +ℤ worth_of vs c.args.third.now) _ step d i c.requires.is_layout low (ap (λ (xs : List Step). get_or xs i d) c.deref-step-items.ensures.value) c.loop-step.invariant
    (λ values among e. let a = worth_within c.args.layout.now c.args.f.now c.args.second.now values c.requires.second among in let b = worth_within c.args.layout.now c.args.f.now c.args.third.now values c.requires.third among in omega (arith, ints, w, g, l, e, sym c.is_under.ensures ∙ c.if-is_under.true, a.0, b.0, c.in_ok-rest.ensures.least, c.in_ok-rest.ensures.greatest))

pub loop-step-preserved-then-is_over : goal.loop-step-preserved-then-is_over
loop-step-preserved-then-is_over c =
    let d : Step = record { value = pos 0; worth = pos 0 } in
    let items = c.deref-step-items.result.now in
    let i = c.loop-step.step-index in
    let step : Step = get_or items i d in
    let w : to_z w128 (of_z w128 step.worth) ≡ step.worth = to_z-of_z w128 step.worth (search rules) in
    let long : length items ≡ length c.args.first.now.steps.items = ap length c.deref-step-items.ensures.value in
    let low : i < length c.args.first.now.steps.items = omega (arith, long, c.loop-step-test.true) in
    let g = gives _ _ _ c.in_ok-left.left c.checked_sub.ensures c.in_ok-left.ensures.ok_part in
    let l : to_z w128 (of_z w128 c.in_ok-left.left) ≡ c.in_ok-left.left = to_z-of_z w128 c.in_ok-left.left (search rules) in
    parted_passed c.args.layout.now c.args.f.now c.loop-step.f c.args.guards.now c.args.first.now (λ vs. worth_of vs c.args.second.now +ℤ worth_of vs c.args.third.now) _ step d i c.requires.is_layout low (ap (λ (xs : List Step). get_or xs i d) c.deref-step-items.ensures.value) c.loop-step.invariant
    (λ values among e. let a = worth_within c.args.layout.now c.args.f.now c.args.second.now values c.requires.second among in let b = worth_within c.args.layout.now c.args.f.now c.args.third.now values c.requires.third among in omega (arith, ints, w, g, l, e, sym c.is_over.ensures ∙ c.if-is_over.true, a.1, b.1, c.in_ok-rest.ensures.least, c.in_ok-rest.ensures.greatest))

pub add_two_apart-requires-clause-from_new : goal.add_two_apart-requires-clause-from_new
add_two_apart-requires-clause-from_new c = c.loop-step.invariant.goes_on.from_new

pub add_two_apart-requires-clause-is_layout : goal.add_two_apart-requires-clause-is_layout
add_two_apart-requires-clause-is_layout c = c.loop-step.invariant.goes_on.is_layout

pub add_two_apart-requires-clause-guards : goal.add_two_apart-requires-clause-guards
add_two_apart-requires-clause-guards c =
    subst (All (λ (a : Atom). a.var < length c.args.layout.now)) (sym c.deref.ensures.value) (c.in_ok-atoms.ensures.names (length c.args.layout.now) c.requires.first.names c.requires.guards)

pub add_two_apart-requires-clause-first : goal.add_two_apart-requires-clause-first
add_two_apart-requires-clause-first c = term_later c.args.layout.now c.args.f.now c.args.layout.now c.loop-step.f c.args.second.now c.loop-step.invariant.goes_on c.requires.second

pub add_two_apart-requires-clause-second : goal.add_two_apart-requires-clause-second
add_two_apart-requires-clause-second c = term_later c.args.layout.now c.args.f.now c.args.layout.now c.loop-step.f c.args.third.now c.loop-step.invariant.goes_on c.requires.third

pub loop-step-preserved : goal.loop-step-preserved
loop-step-preserved c =
    let d : Step = record { value = pos 0; worth = pos 0 } in
    let items = c.deref-step-items.result.now in
    let i = c.loop-step.step-index in
    let step : Step = get_or items i d in
    let w : to_z w128 (of_z w128 step.worth) ≡ step.worth = to_z-of_z w128 step.worth (search rules) in
    let v : to_z w64 (of_z w64 step.value) ≡ step.value = to_z-of_z w64 step.value (search rules) in
    let long : length items ≡ length c.args.first.now.steps.items = ap length c.deref-step-items.ensures.value in
    let low : i < length c.args.first.now.steps.items = omega (arith, long, c.loop-step-test.true) in
    let g = gives _ _ _ c.in_ok-left.left c.checked_sub.ensures c.in_ok-left.ensures.ok_part in
    parted_turn c.args.layout.now c.args.f.now c.loop-step.f c.add_two_apart.new.f c.args.guards.now c.deref.result.now _ c.args.first.now (λ vs. worth_of vs c.args.second.now +ℤ worth_of vs c.args.third.now) _ _ step d i
    c.requires.is_layout c.requires.first low (ap (λ (xs : List Step). get_or xs i d) c.deref-step-items.ensures.value) (subst (AreGuardsOrOther c.args.first.now.source _ c.args.guards.now) (sym c.deref.ensures.value) c.in_ok-atoms.ensures) v
    c.loop-step.invariant c.in_ok-add_two_apart.ensures (omega (arith, ints, g, w))

pub returns : goal.returns
returns c =
    let long : length c.deref-step-items.result.now ≡ length c.args.first.now.steps.items = ap length c.deref-step-items.ensures.value in
    all_turns c.args.layout.now c.args.f.now c.loop-step.f (Parted c.args.guards.now c.args.first.now (λ vs. worth_of vs c.args.second.now +ℤ worth_of vs c.args.third.now) _)
    (Unless c.args.guards.now (λ values. (worth_of values c.args.first.now +ℤ (worth_of values c.args.second.now +ℤ worth_of values c.args.third.now)) ≢ c.args.number))
    c.args.first.now.steps.items c.loop-step.step-index c.requires.is_layout (omega (arith, long, c.loop-step-test.false)) c.loop-step.invariant
    (λ values among. parted_all c.args.layout.now c.args.f.now c.args.guards.now c.args.first.now (λ vs. worth_of vs c.args.second.now +ℤ worth_of vs c.args.third.now) _ c.args.number values c.requires.first among (omega (arith, ints)))
