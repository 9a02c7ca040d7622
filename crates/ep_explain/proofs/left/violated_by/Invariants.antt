use Rattle.std.proofs.Common.{◌-◌, ◌≤◌, length, take}
use Rattle.std.specs.List.{All, Contains}
use Rattle.ep_explain.specs.Narrowing.{IsTrueAt}
use Rattle.ep_instance_parts.specs.Instances.{instance_mode, plain_instance}
use Rattle.ep_tree.specs.Solutions.{Fits, Found}
use Rattle.ep_tree.specs.Views.{assigned}
use Rattle.ep_explain.proofs.left.violated_by.Given as goal

abbrev pub invariant-loop-begun : goal.invariant-loop-begun
invariant-loop-begun l = record {
  within : l.begun ≤ length l.numbers;
  holds : (found : Found) → Fits (plain_instance l.instance) (assigned l.a) found
      → All (λ n. (Contains l.violated.items n → ⊥) → IsTrueAt (instance_mode l.instance) (plain_instance l.instance) found n) (take l.begun l.numbers);
}

abbrev pub decreases-loop-begun : goal.decreases-loop-begun
decreases-loop-begun l = length l.numbers - l.begun
