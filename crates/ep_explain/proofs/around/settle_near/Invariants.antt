use Rattle.std.proofs.Common.{◌≡◌}
use Rattle.ep_explain.specs.Narrowing.{AreLeft, left_numbers}
use Rattle.ep_instance_parts.specs.Instances.{instance_mode, plain_instance}
use Rattle.ep_explain.proofs.around.settle_near.Given as goal

abbrev pub invariant-loop-change : goal.invariant-loop-change
invariant-loop-change l = record {
  left : AreLeft (instance_mode l.instance) (plain_instance l.instance) l.left.items;
  same : left_numbers l.left.items ≡ left_numbers l.fn.left.items;
}
