use Rattle.std.proofs.Common.{◌≡◌, map, take}
use Rattle.enc_arith.specs.Elements.{rests_after}
use Rattle.enc_arith.specs.Entries.{plain_entry}
use Rattle.enc_arith.proofs.elements.rests.Given as goal

abbrev pub invariant-loop-one : goal.invariant-loop-one
invariant-loop-one l = map plain_entry l.left.items ≡ rests_after l.number (map plain_entry (take l.one-index l.entries))
