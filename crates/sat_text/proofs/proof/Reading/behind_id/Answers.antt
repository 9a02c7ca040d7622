use Rattle.sat_text.proofs.LineSteps.{letter, no_letter}
use Rattle.sat_text.proofs.proof.Reading.behind_id.Goals as goal

pub returns-in-Some-clause-adds : goal.returns-in-Some-clause-adds
returns-in-Some-clause-adds c = rw (letter c.args.id _ _ c.in-Some.ensures.words) c.deletion.ensures.adds

pub returns-in-None-clause-adds : goal.returns-in-None-clause-adds
returns-in-None-clause-adds c = rw (no_letter c.args.id _ c.in-None.ensures.words) c.addition.ensures.adds
