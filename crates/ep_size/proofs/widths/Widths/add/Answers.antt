use Rattle.ep_size.proofs.Words.{arith}
use Rattle.ep_size.proofs.WidthSteps.{widens_more}
use Rattle.ep_size.proofs.widths.Widths.add.Goals as goal

pub returns : goal.returns
returns c spans h =
    widens_more c.args.self.now _ spans c.args.span h (omega (arith, c.told.ensures, c.told-self.ensures))
    (omega (arith, c.told-2.ensures, c.told_count.ensures, c.told-self-2.ensures, c.width.ensures))
