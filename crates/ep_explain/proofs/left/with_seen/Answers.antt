use Rattle.std.proofs.Common.{refl}
use Rattle.ep_explain.proofs.Leaving.{narrowed_more}
use Rattle.ep_explain.proofs.left.with_seen.Goals as goal

pub returns : goal.returns
returns c = λ mode i before one. narrowed_more mode i c.args.narrowed _ c.args.one before one refl c.in_ok-push.ensures.items
