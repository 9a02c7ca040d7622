use Rattle.ep_share.proofs.Best.{table_says}
use Rattle.ep_share.proofs.pairs.span_at.Goals as goal

pub returns : goal.returns
returns c = table_says c.args.spans.now c.args.term c.number.result _ c.number.ensures c.requires
