use Rattle.std.proofs.Common.{◌≡◌, not, take}
use Rattle.std.specs.Prelude.{filter}
use Rattle.ep_explain.specs.Narrowing.{is_in_block, left_numbers}
use Rattle.ep_explain.proofs.left.parted.Given as goal

abbrev pub invariant-loop-one : goal.invariant-loop-one
invariant-loop-one l = record {
  own : l.inside.items ≡ filter (is_in_block l.block) (left_numbers (take l.one-index l.left));
  others : l.outside.items ≡ filter (λ n. not (is_in_block l.block n)) (left_numbers (take l.one-index l.left));
}
