use Rattle.sat_text.proofs.LineSteps.{deletion_more}
use Rattle.sat_text.proofs.proof.Reading.deletion.Goals as goal

pub returns-in-None-clause-adds : goal.returns-in-None-clause-adds
returns-in-None-clause-adds c = deletion_more _ _ _ c.in_ok-rest.ensures.value c.in-None.ensures
