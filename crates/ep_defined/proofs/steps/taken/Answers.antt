use Rattle.std.proofs.Common.{length}
use Rattle.ep_defined.proofs.Growth.{interned_grows, never_full}
use Rattle.ep_ground.specs.NodeViews.{plain_node}
use Rattle.ep_defined.proofs.steps.taken.Goals as goal

pub returns-in-Ok-clause-grows : goal.returns-in-Ok-clause-grows
returns-in-Ok-clause-grows c = λ asker safe.
    interned_grows c.args.arena.now (plain_node c.args.node) c.intern.new.self asker c.requires.parts c.in-Ok.ensures.arena safe

pub unreachable-requires : goal.unreachable-requires
unreachable-requires c = never_full (length c.args.arena.now) c.requires.room (c.in-Err-Full.ensures.full c.in-Err-Full.field-0-is).0
