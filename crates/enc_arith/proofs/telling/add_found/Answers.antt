use Rattle.std.proofs.Common.{w64, rules}
use Rattle.std.proofs.lemmas.Int.{to_z-of_z}
use Rattle.enc_arith.proofs.Cases.{adds_no_number, adds_some}
use Rattle.enc_arith.proofs.telling.add_found.Goals as goal

pub returns-in_ok-add_number-in-Some : goal.returns-in_ok-add_number-in-Some
returns-in_ok-add_number-in-Some c = adds_some _ _ _ _ _ _ _ c.in-Some.number _ c.in-Some.is (to_z-of_z w64 c.in-Some.number (search rules)) c.in_ok-add_number-in-Some.ensures

pub returns-in_ok-add_failure-in-None : goal.returns-in_ok-add_failure-in-None
returns-in_ok-add_failure-in-None c = adds_no_number _ _ _ _ _ _ _ c.in-None.is c.in_ok-add_failure-in-None.ensures
