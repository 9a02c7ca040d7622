use Rattle.std.proofs.Common.{◌≡◌, ◌==◌, not, take}
use Rattle.std.specs.Prelude.{filter}
use Rattle.ep_explain.specs.Narrowing.{left_numbers}
use Rattle.ep_explain.proofs.left.numbers_but.Given as goal

abbrev pub invariant-loop-one : goal.invariant-loop-one
invariant-loop-one l = l.numbers.items ≡ filter (λ k. not (k == l.clause)) (left_numbers (take l.one-index l.left))
