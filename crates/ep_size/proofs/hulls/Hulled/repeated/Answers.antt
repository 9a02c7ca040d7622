use Rattle.ep_size.proofs.Words.{refl}
use Rattle.ep_size.proofs.HullSteps.{hulls_no, hulls_same}
use Rattle.ep_size.proofs.hulls.Hulled.repeated.Goals as goal

pub returns-then-count-eq0 : goal.returns-then-count-eq0
returns-then-count-eq0 c n h = hulls_no c.new.result c.args.span c.args.count n c.new.ensures c.if-count-eq0.true h

pub returns : goal.returns
returns c n h = hulls_same _ c.args.span n c.if-count-eq0.false h refl refl
