use Rattle.sat_text.proofs.LineSteps.{addition_more}
use Rattle.sat_text.proofs.proof.Reading.addition.Goals as goal

pub returns-in-None-clause-adds : goal.returns-in-None-clause-adds
returns-in-None-clause-adds c = addition_more c.args.id _ _ _ _ _ c.in_ok-rest.ensures.value c.in_ok-rest-2.ensures.value c.in-None.ensures
