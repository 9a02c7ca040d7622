use Rattle.std.proofs.Common.{◌≡◌, drop}
use Rattle.ep_tree.specs.Types.{stated_dimensions}
use Rattle.ep_types_rules.proofs.types.stated_dimensions.Given as goal

abbrev pub invariant-loop-part : goal.invariant-loop-part
invariant-loop-part l = stated_dimensions l.parts ≡ stated_dimensions (drop l.part-index l.parts)
