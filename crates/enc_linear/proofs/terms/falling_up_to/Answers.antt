use Rattle.std.proofs.Common.{◌≡◌, ℤ, pos, slice_index_or, arith, rules, to_z, of_z, w64}
use Rattle.std.proofs.lemmas.Int.{ints, to_z-of_z}
use Rattle.enc_linear.specs.declared.terms.Step.{Step}
use Rattle.enc_linear.proofs.Ladders.{above_same, gives, up_falling, within_same}
use Rattle.enc_linear.proofs.terms.falling_up_to.Goals as goal

pub returns : goal.returns
returns c =
    let d : Step = record { value = pos 0; worth = pos 0 } in
    let n = c.count_above-count.result in
    let x : ℤ = (slice_index_or c.args.steps.now n d).value in
    let e : to_z w64 (of_z w64 x) ≡ x = to_z-of_z w64 x (search rules) in
    let g = gives _ _ _ c.in_ok-below.below c.checked_sub.ensures c.in_ok-below.ensures.ok_part in
    up_falling c.args.steps.now n c.args.most _ c.args.source d c.in_ok-beyond.beyond c.requires (omega arith)
    (above_same _ _ _ _ _ c.count_above-count.ensures.before (omega (arith, ints))) (within_same _ _ _ _ _ c.count_above-count.ensures.behind (omega (arith, ints))) c.in_ok-beyond.ensures (omega (arith, ints, g, e))
