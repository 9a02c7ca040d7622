use Rattle.std.proofs.Common.{◌≡◌}
use Rattle.std.specs.Prelude.{map}
use Rattle.ep_instance_parts.specs.Instances.{find_of, plain_instance}
use Rattle.ep_explain.proofs.Nearby.{no_optimum_read, not_none_read, not_unknown_read, placed}
use Rattle.ep_explain.proofs.around.assignment_with.Goals as goal

pub unreachable-requires : goal.unreachable-requires
unreachable-requires c = no_optimum_read _ c.args.numbers.items _ _ _ c.in-Optimum.is c.in_ok-answer.ensures

pub unreachable-requires-in-NoSolution : goal.unreachable-requires-in-NoSolution
unreachable-requires-in-NoSolution c = not_none_read _ c.args.numbers.items _ c.in-NoSolution.is c.in_ok-answer.ensures

pub unreachable-requires-in-Unknown : goal.unreachable-requires-in-Unknown
unreachable-requires-in-Unknown c = not_unknown_read _ c.args.numbers.items _ _ _ c.in-Unknown.is c.in_ok-answer.ensures

pub returns : goal.returns
returns c =
    let i = plain_instance c.args.instance.now in
    placed i (map find_of c.finds.result.now) c.args.numbers.items _ c.in-Solution.a c.finds.ensures
    (c.cells_stand_for_values.ensures.reads i c.args.numbers.items c.requires.closed c.requires.values) c.in-Solution.is c.in_ok-answer.ensures
