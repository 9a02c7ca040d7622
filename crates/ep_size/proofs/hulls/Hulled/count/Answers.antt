use Rattle.ep_size.proofs.HullSteps.{hulls_count}
use Rattle.ep_size.proofs.hulls.Hulled.count.Goals as goal

pub returns : goal.returns
returns c spans h = hulls_count c.args.self spans h
