use Rattle.std.proofs.Common.{◌≡◌, map, take}
use Rattle.enc_arith.specs.Elements.{with_parts}
use Rattle.enc_arith.specs.Entries.{plain_entry}
use Rattle.enc_arith.proofs.elements.with_parts.Given as goal

abbrev pub invariant-loop-place : goal.invariant-loop-place
invariant-loop-place l = map plain_entry l.entries.items ≡ with_parts (take l.place l.keys) l.parts
