use Rattle.std.proofs.Common.{take}
use Rattle.ep_flatten.specs.Images.{Collects, HasResult, operation_result}
use Rattle.ep_numbers.specs.Spans.{interval_of}
use Rattle.ep_flatten.proofs.images.push_results.Given as goal

abbrev pub invariant-loop-number : goal.invariant-loop-number
invariant-loop-number l = Collects (interval_of l.span) (HasResult (interval_of l.span) (operation_result l.op)) (take l.number-index l.numbers) l.fn.results.items l.results.items
