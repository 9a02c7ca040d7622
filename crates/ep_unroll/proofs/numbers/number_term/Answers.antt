use Rattle.ep_unroll.proofs.Words.{refl, number_in, worth}
use Rattle.ep_unroll.proofs.FormValues.{if_ok}
use Rattle.ep_unroll.proofs.NumberSteps.{number_means}
use Rattle.ep_unroll.proofs.numbers.number_term.Goals as goal

pub returns : goal.returns
returns c n cells nodes e h =
    if_ok c.scalar_term.result _ _
    (λ t has. number_means n cells nodes c.args.arena.now c.scalar_term.new.arena e c.args.known.now (λ numbers. number_in (worth c.args.arena.now numbers c.args.known.now)) t
    (λ numbers. refl) h (has h.known)) c.scalar_term.ensures
