use Rattle.ep_unroll.proofs.Words.{◌≡◌, ℤ, ◌-ℤ◌, arith, of_z, to_z, w128, ints}
use Rattle.ep_unroll.proofs.RunParts.{placed}
use Rattle.ep_unroll.proofs.blocks.place_in.Goals as goal

pub returns-clause-some : goal.returns-clause-some
returns-clause-some c =
    let far : ℤ = to_z w128 (of_z w128 (to_z w128 (of_z w128 c.from.result) -ℤ to_z w128 (of_z w128 c.from-2.result))) in
    let away : far ≡ c.args.index -ℤ c.args.run.lo = omega (arith, ints, c.from.ensures, c.from-2.ensures) in
    placed c.args.run c.args.index far away (omega (arith, ints, c.if-index-run.false)) (omega (arith, ints, c.if-run-index.false))
