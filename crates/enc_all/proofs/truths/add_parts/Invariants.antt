use Rattle.std.proofs.Common.{◌≡◌, map, take}
use Rattle.enc_all.proofs.truths.add_parts.Given as goal
use Rattle.enc_all.specs.Parts.{part_atom}

abbrev pub invariant-loop-part : goal.invariant-loop-part
invariant-loop-part l = l.atoms.items ≡ map part_atom (take l.part-index l.fn.parts)
