use Rattle.std.proofs.Common.{◌≡◌, drop}
use Rattle.log_check.specs.Parts.{first_found}
use Rattle.log_check.proofs.parts.least.Given as goal

abbrev pub invariant-loop-part : goal.invariant-loop-part
invariant-loop-part l = first_found (drop l.part-index l.found) ≡ first_found l.found
