use Rattle.std.proofs.Common.{arith}
use Rattle.ep_defined.proofs.Ending.{started}
use Rattle.ep_defined.proofs.Growth.{room_in_none}
use Rattle.ep_ground.specs.Nodes.{parts_of}
use Rattle.ep_defined.proofs.remove.start.Goals as goal

pub taken-requires-clause-parts : goal.taken-requires-clause-parts
unfolding parts_of
taken-requires-clause-parts c = λ k d below. absurd (omega (arith, below))

pub returns : goal.returns
returns c = λ cells olds.
    started cells olds c.args.arena.now c.taken.new.arena c.in_ok-nought.nought c.requires c.in_ok-nought.ensures.term c.in_ok-nought.ensures.grows

pub taken-requires-clause-room : goal.taken-requires-clause-room
taken-requires-clause-room c = room_in_none c.args.arena.now c.requires
