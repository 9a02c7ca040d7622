use Rattle.ep_size.proofs.Words.{refl, arith}
use Rattle.ep_size.proofs.HullSteps.{hulls_first, hulls_next}
use Rattle.ep_size.proofs.hulls.Hulled.add.Goals as goal

pub returns-then-self-eq0 : goal.returns-then-self-eq0
returns-then-self-eq0 c spans h = hulls_first c.args.self.now _ spans c.args.span c.if-self-eq0.true h refl refl refl

pub returns : goal.returns
returns c spans h =
    hulls_next c.args.self.now _ spans c.args.span c.if-self-eq0.false h (omega (arith, c.told.ensures, c.told-self.ensures)) c.hull_of-self.ensures refl
