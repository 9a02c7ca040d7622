use Rattle.std.proofs.Common.{rules, ◌∙◌, get_or, arith}
use Rattle.std.proofs.lemmas.Int.{to_z-of_z}
use Rattle.std.specs.Int.{w64, w128}
use Rattle.ep_implied.proofs.SumSteps.{part_set, raised_is}
use Rattle.ep_implied.proofs.sums.add_part.Goals as goal

pub returns : goal.returns
returns c = λ is values.
    let now = to_z-of_z w128 c.index.result.now (search rules) ∙ c.index.ensures in
    let times = to_z-of_z w128 c.args.times c.ranges.times in
    let factor = to_z-of_z w64 c.args.coefficient c.ranges.coefficient in
    let after = to_z-of_z w128 c.in-Some.sum (search rules) in
    let sum = raised_is c.in-Some.sum _ (get_or c.args.coefficients.now.items c.args.var c.index.result.now) _ c.args.times _ c.args.coefficient c.in-Some.ensures now times factor in
    part_set c.args.coefficients.now.items c.args.var c.index.result.now _ c.args.times c.args.coefficient values (omega (arith, c.if-place-len.false, c.len.ensures)) (after ∙ sum)
