use Rattle.std.proofs.Common.{◌≤ℤ◌, w64, to_z, arith}
use Rattle.std.proofs.lemmas.Int.{ints}
use Rattle.ep_answer.specs.Searches.{kept_values}
use Rattle.ep_answer.proofs.Deciding.{number_found}
use Rattle.ep_answer.proofs.decoding.number_of.Goals as goal

pub returns : goal.returns
returns c =
    let none : to_z w64 c.loop-low.high-bits ≤ℤ to_z w64 c.loop-low.low-bits = omega (arith, ints) in
    number_found c.args.layout.now (kept_values c.args.solver.now) c.args.var (to_z w64 c.loop-low.low-bits) (to_z w64 c.loop-low.high-bits) c.requires.there c.loop-low.invariant.above c.loop-low.invariant.below none
