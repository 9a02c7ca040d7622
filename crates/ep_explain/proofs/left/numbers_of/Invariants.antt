use Rattle.std.proofs.Common.{◌≡◌, take}
use Rattle.ep_explain.specs.Narrowing.{left_numbers}
use Rattle.ep_explain.proofs.left.numbers_of.Given as goal

abbrev pub invariant-loop-one : goal.invariant-loop-one
invariant-loop-one l = l.numbers.items ≡ left_numbers (take l.one-index l.left)
