use Rattle.std.proofs.Common.{◌≡◌, length}
use Rattle.enc_atoms.specs.Steps.{HasTruths, numbers_from}
use Rattle.enc_atoms.proofs.truths.new_truths.Given as goal

abbrev pub invariant-loop-made : goal.invariant-loop-made
invariant-loop-made l = record {
  numbers : l.truths.items ≡ numbers_from (length l.fn.layout) l._made;
  new : HasTruths l.fn.layout l.fn.f l.layout l.f l._made;
}
