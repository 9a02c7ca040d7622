use Rattle.std.proofs.Common.{take}
use Rattle.std.specs.List.{All}
use Rattle.ep_numbers.specs.Spans.{interval_of}
use Rattle.ep_simplify.specs.Decided.{LacksAll}
use Rattle.ep_simplify.proofs.truths.is_apart.Given as goal

abbrev pub invariant-loop-run : goal.invariant-loop-run
invariant-loop-run l = All (LacksAll (interval_of l.x)) (take l.run-index l.runs)
