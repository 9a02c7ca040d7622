use Rattle.std.proofs.Common.{◌≡◌, ℤ, pos, ◌-◌, slice_index_or, arith, rules, to_z, of_z, w64}
use Rattle.std.proofs.lemmas.Int.{ints, to_z-of_z}
use Rattle.enc_linear.specs.declared.terms.Step.{Step}
use Rattle.enc_linear.proofs.Ladders.{above_same, up_rising, within_same}
use Rattle.enc_linear.proofs.terms.rising_up_to.Goals as goal

pub returns : goal.returns
returns c =
    let d : Step = record { value = pos 0; worth = pos 0 } in
    let n = c.count_up_to-count.result - 1 in
    let x : ℤ = (slice_index_or c.args.steps.now n d).value in
    let e : to_z w64 (of_z w64 x) ≡ x = to_z-of_z w64 x (search rules) in
    up_rising c.args.steps.now c.count_up_to-count.result n c.args.most _ c.args.source d c.in_ok-within.within c.requires c.count_up_to-count.ensures.bound (omega arith)
    (within_same _ _ _ _ _ c.count_up_to-count.ensures.before (omega (arith, ints))) (above_same _ _ _ _ _ c.count_up_to-count.ensures.behind (omega (arith, ints))) c.in_ok-within.ensures e
