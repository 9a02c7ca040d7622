use Rattle.std.proofs.Common.{ℤ, List, ◌==◌, length}
use Rattle.ep_defined.proofs.Listing.{filtered_turn}
use Rattle.ep_defined.proofs.steps.keys_of_length.Goals as goal

pub loop-key-preserved : goal.loop-key-preserved
loop-key-preserved c =
    filtered_turn (λ (key : List ℤ). length key == c.args.width) c.args.keys.now c.loop-key.key-index _ c.loop-key.rows.items c.add_key.new.rows.items c.in_ok-add_key.ensures c.loop-key.invariant c.loop-key-test.true c.key-item.is
