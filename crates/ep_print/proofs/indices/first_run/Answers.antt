use Rattle.std.proofs.Common.{◌≡◌, ℤ, pos, [], ◌∷◌, get_or, drop, subst, rules, sym, ap, ◌∙◌, refl, w64, FitsSigned, to_z, of_z}
use Rattle.std.proofs.lemmas.Int.{to_z-of_z}
use Rattle.std.proofs.lemmas.List.{take_rest}
use Rattle.ep_print.specs.Values.{runs_of}
use Rattle.ep_print.proofs.RunLaws.{begins, run_ends, run_more, run_stops}
use Rattle.ep_print.proofs.indices.first_run.Goals as goal

pub loop-i-init : goal.loop-i-init
loop-i-init c = begins (to_z w64 (of_z w64 c.args.first)) c.args.others.now

pub loop-i-preserved : goal.loop-i-preserved
loop-i-preserved c =
    let next = get_or c.args.others.now c.loop-i.i (pos 0) in
    let fits : FitsSigned w64 next = search rules in
    run_more _ _ next (to_z w64 (of_z w64 next)) c.args.others.now c.loop-i.i _ c.loop-i-test.true refl (to_z-of_z w64 next fits) (sym c.if-not-follows.ensures) c.loop-i.invariant

pub returns-then-not-follows-clause-run : goal.returns-then-not-follows-clause-run
returns-then-not-follows-clause-run c =
    let next = get_or c.args.others.now c.loop-i.i (pos 0) in
    let fits : FitsSigned w64 next = search rules in
    let first = to_z w64 (of_z w64 c.args.first) in
    let last = to_z w64 c.loop-i.last-bits in
    let stop = run_stops first last next (to_z w64 (of_z w64 next)) c.args.others.now c.loop-i.i (runs_of (first ∷ c.args.others.now)) c.loop-i-test.true refl (to_z-of_z w64 next fits) (sym c.if-not-follows.ensures) c.loop-i.invariant in
    subst (λ (f : ℤ). runs_of (f ∷ c.args.others.now) ≡ record { first = f; last = last } ∷ runs_of (drop c.loop-i.i c.args.others.now)) (to_z-of_z w64 c.args.first c.ranges.first) stop
    ∙ ap (λ ns. record { first = c.args.first; last = last } ∷ runs_of ns) (sym (take_rest c.args.others.now c.loop-i.i))

pub returns-clause-run : goal.returns-clause-run
returns-clause-run c =
    let first = to_z w64 (of_z w64 c.args.first) in
    let last = to_z w64 c.loop-i.last-bits in
    let end = run_ends first last c.args.others.now c.loop-i.i (runs_of (first ∷ c.args.others.now)) c.loop-i-test.false c.loop-i.invariant in
    subst (λ (f : ℤ). runs_of (f ∷ c.args.others.now) ≡ record { first = f; last = last } ∷ runs_of []) (to_z-of_z w64 c.args.first c.ranges.first) end
