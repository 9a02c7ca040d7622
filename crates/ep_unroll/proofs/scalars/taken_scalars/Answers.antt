use Rattle.ep_unroll.proofs.ScalarSteps.{scalars_are}
use Rattle.ep_unroll.proofs.scalars.taken_scalars.Goals as goal

pub scalar_terms-requires : goal.scalar_terms-requires
scalar_terms-requires c = c.requires

pub returns : goal.returns
returns c n cells nodes e h = scalars_are n cells nodes c.args.arena.now c.scalar_terms.new.arena e c.args.known c.in_ok-terms.terms.items h c.in_ok-terms.ensures
