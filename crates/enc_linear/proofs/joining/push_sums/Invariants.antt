use Rattle.std.proofs.Common.{ℤ, take, ◌+ℤ◌}
use Rattle.std.specs.List.{All, Any}
use Rattle.ep_base.specs.Runs.{IsIn}
use Rattle.enc_linear.specs.Bounds.{clipped}
use Rattle.enc_linear.proofs.joining.push_sums.Given as goal

abbrev pub invariant-loop-other : goal.invariant-loop-other
invariant-loop-other l = record {
  kept : (number : ℤ) → Any (IsIn number) l.initial.runs.items → Any (IsIn number) l.runs.items;
  sums : All (λ other. Any (IsIn (clipped l.clip.low l.clip.high (l.step.worth +ℤ other.worth))) l.runs.items) (take l.other-index l.second.steps.items);
}
