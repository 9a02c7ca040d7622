use Rattle.std.proofs.Common.{◌≡◌, ◌++◌, map, take}
use Rattle.sat_text.specs.Clauses.{number_of}
use Rattle.sat_text.specs.Writing.{spaced}
use Rattle.sat_text.proofs.writing.put_literals.Given as goal

abbrev pub invariant-loop-lit : goal.invariant-loop-lit
invariant-loop-lit l = l.out.items ≡ l.initial.out.items ++ spaced (map number_of (take l.lit-index l.clause))
