use Rattle.std.proofs.Common.{drop, option_map}
use Rattle.ep_eval.specs.Known.{env_of}
use Rattle.ep_instance_parts.proofs.RangeSteps.{RangesSoFar}
use Rattle.ep_instance_parts.proofs.bounds.read_ranges.Given as goal

abbrev pub invariant-loop-range : goal.invariant-loop-range
invariant-loop-range l =
    RangesSoFar l.env.mode (env_of l.env) l.before l.ranges (drop l.range-index l.ranges) (option_map (λ v. v.items) l.runs) l.count
