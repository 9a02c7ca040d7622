use Rattle.ep_instance.proofs.judging.is_solution.Goals as goal

pub judge-requires : goal.judge-requires
judge-requires c = record { closed = c.requires.closed; small = c.requires.small; fits = c.requires.fits; own = c.in_ok-judge.ensures }

pub returns : goal.returns
returns c = c.judge.ensures.judgement
