use Rattle.enc_arith.proofs.Cases.{adds_failure, adds_false}
use Rattle.enc_arith.proofs.telling.add_failure.Goals as goal

pub returns-in_ok-add_more-in-Some : goal.returns-in_ok-add_more-in-Some
returns-in_ok-add_more-in-Some c = adds_false _ _ _ _ _ c.in-Some.truth c.is.result c.requires.ready c.in-Some.is c.is.ensures c.in_ok-add_more-in-Some.ensures

pub returns-in_ok-add_clause-in-None : goal.returns-in_ok-add_clause-in-None
returns-in_ok-add_clause-in-None c = adds_failure _ _ _ _ _ c.requires.ready c.in-None.is c.in_ok-add_clause-in-None.ensures
