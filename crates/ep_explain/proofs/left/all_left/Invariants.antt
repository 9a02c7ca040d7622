use Rattle.std.proofs.Common.{◌≡◌, take}
use Rattle.std.specs.Prelude.{None}
use Rattle.std.specs.List.{All}
use Rattle.ep_explain.specs.Narrowing.{left_numbers}
use Rattle.ep_explain.proofs.left.all_left.Given as goal

abbrev pub invariant-loop-number : goal.invariant-loop-number
invariant-loop-number l = (left_numbers l.left.items ≡ take l.number-index l.numbers) × All (λ one. one.without ≡ None) l.left.items
