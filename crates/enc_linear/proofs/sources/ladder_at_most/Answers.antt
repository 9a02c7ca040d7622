use Rattle.std.proofs.Common.{◌≡◌, refl, to_z, of_z, w64, arith}
use Rattle.std.proofs.lemmas.Int.{ints, to_z-of_z}
use Rattle.enc_linear.proofs.Ladders.{gives}
use Rattle.enc_linear.proofs.Reading.{always_so_low, natural_is, never_so_low, rung_so_low}
use Rattle.enc_linear.proofs.sources.ladder_at_most.Goals as goal

pub returns-then-most-lt0 : goal.returns-then-most-lt0
returns-then-most-lt0 c = never_so_low c.args.ladder c.args.most _ c.at_most.result c.at_most.ensures (omega (arith, ints)) (omega (arith, ints))

pub returns-then-place-ladder : goal.returns-then-place-ladder
returns-then-place-ladder c =
    let most : to_z w64 (of_z w64 c.args.most) ≡ c.args.most = to_z-of_z w64 c.args.most c.ranges.most in
    always_so_low c.args.ladder c.args.most _ _ c.at_most-then-place-ladder.result c.at_most-then-place-ladder.ensures (omega (arith, ints)) (natural_is c.args.most (to_z w64 (of_z w64 c.args.most)) most c.if-most-lt0.false) c.if-place-ladder.true

pub returns : goal.returns
returns c =
    let most : to_z w64 (of_z w64 c.args.most) ≡ c.args.most = to_z-of_z w64 c.args.most c.ranges.most in
    let g = gives _ _ _ c.in_ok-var.var c.checked_add.ensures c.in_ok-var.ensures.ok_part in
    rung_so_low c.args.ladder c.args.most _ _ c.in_ok-var.var c.at_most-2.result c.at_most-2.ensures g refl (natural_is c.args.most (to_z w64 (of_z w64 c.args.most)) most c.if-most-lt0.false) (omega (arith, c.if-place-ladder.false))
