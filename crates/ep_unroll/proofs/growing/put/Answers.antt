use Rattle.ep_unroll.proofs.Words.{plain_node}
use Rattle.ep_unroll.proofs.NodeValues.{put_is}
use Rattle.ep_unroll.proofs.growing.put.Goals as goal

pub returns-in-Ok : goal.returns-in-Ok
returns-in-Ok c =
    put_is c.args.arena.now c.intern-taken.new.self (plain_node c.args.node) c.in-Ok.term c.len-count.ensures.arena
    c.in-Ok.ensures.arena c.in-Ok.ensures.term
