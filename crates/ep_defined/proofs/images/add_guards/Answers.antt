use Rattle.ep_defined.proofs.Listing.{guarded_turn}
use Rattle.ep_defined.proofs.images.add_guards.Goals as goal

pub loop-term-preserved : goal.loop-term-preserved
loop-term-preserved c =
    guarded_turn c.args.images.now c.args.terms.now c.loop-term.term-index _ c.args.guards.now.items c.loop-term.guards.items c.add_guard.new.guards.items
    c.in_ok-add_guard.ensures c.loop-term.invariant c.loop-term-test.true c.term-item.is
