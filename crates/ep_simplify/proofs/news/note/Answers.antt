use Rattle.std.proofs.Common.{refl}
use Rattle.ep_simplify.proofs.Untold.{none_isnt}
use Rattle.ep_simplify.proofs.news.note.Goals as goal

pub returns-in_default : goal.returns-in_default
returns-in_default c = record { arena = refl; span = λ near. absurd (cc); near = λ near some. absurd (none_isnt c.args.reach c.in_default.is some) }

pub returns : goal.returns
returns c = record { arena = refl; span = λ near. (c.in-Some.span, c.in-Some.is, c.in_ok-push.ensures.items); near = λ near some. near }
