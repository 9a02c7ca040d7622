use Rattle.std.proofs.Common.{◌≡◌, [], drop, map}
use Rattle.enc_arith.specs.Elements.{part_of}
use Rattle.enc_arith.specs.Entries.{plain_entry}
use Rattle.enc_arith.proofs.elements.whole.Given as goal

abbrev pub invariant-loop-one : goal.invariant-loop-one
invariant-loop-one l = part_of (map plain_entry l.entries) [] ≡ part_of (map plain_entry (drop l.one-index l.entries)) []
