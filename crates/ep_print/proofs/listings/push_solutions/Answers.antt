use Rattle.std.proofs.Common.{arith}
use Rattle.ep_print.proofs.Numbering.{solution_more, solutions_end}
use Rattle.ep_print.proofs.listings.push_solutions.Goals as goal

pub loop-solution-preserved : goal.loop-solution-preserved
loop-solution-preserved c = record {
  counted = omega (arith, c.loop-solution.invariant.counted);
  so_far = solution_more c.args.found.now c.loop-solution.solution-index c.loop-solution.number c.solution-item.result c.loop-solution.text.items c.push_solution.new.text.items _
      c.loop-solution-test.true c.solution-item.is c.in_ok-push_solution.ensures c.loop-solution.invariant.so_far;
}

pub returns : goal.returns
returns c =
    solutions_end c.args.found.now c.loop-solution.solution-index c.loop-solution.number c.loop-solution.text.items _ c.loop-solution-test.false c.loop-solution.invariant.so_far
