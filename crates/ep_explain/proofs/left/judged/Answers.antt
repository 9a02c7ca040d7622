use Rattle.ep_explain.proofs.Asking.{asked_closed}
use Rattle.ep_explain.proofs.Judged.{asked_fits, asked_small, judged_as}
use Rattle.ep_explain.proofs.left.judged.Goals as goal

pub is_solution-requires : goal.is_solution-requires
is_solution-requires c = record {
  closed = asked_closed _ _ _ c.in_ok-fewer.ensures.same c.requires.closed;
  small = asked_small _ _ _ _ _ c.in_ok-fewer.ensures.same c.in_ok-fewer.ensures.mode c.requires.numbers c.requires.within;
  fits = (c.requires.fits.0, asked_fits _ _ _ _ _ c.in_ok-fewer.ensures.same c.requires.fits.1);
}

pub returns : goal.returns
returns c = λ found fits. judged_as _ _ _ _ _ _ found _ c.in_ok-fewer.ensures.same c.in_ok-fewer.ensures.mode (λ fitting. c.in_ok-judgement.ensures found fitting) fits
