use Rattle.std.proofs.Common.{◌≡◌, drop}
use Rattle.ep_base.specs.RunEnds.{greatest_from, least_from}
use Rattle.ep_numbers.proofs.spans.span_from.Given as goal

abbrev pub invariant-loop-run : goal.invariant-loop-run
invariant-loop-run l = record {
  low : least_from l.span.low (drop l.run-index l.runs) ≡ least_from l.fn.first.lo l.runs;
  high : greatest_from l.span.high (drop l.run-index l.runs) ≡ greatest_from l.fn.first.hi l.runs;
}
