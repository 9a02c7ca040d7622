use Rattle.std.proofs.Common.{◌≡◌, ◌==◌, ℤ, List, length, take}
use Rattle.std.specs.Prelude.{filter}
use Rattle.ep_defined.proofs.steps.keys_of_length.Given as goal

abbrev pub invariant-loop-key : goal.invariant-loop-key
invariant-loop-key l = l.rows.items ≡ filter (λ (key : List ℤ). length key == l.fn.width) (take l.key-index l.keys)
