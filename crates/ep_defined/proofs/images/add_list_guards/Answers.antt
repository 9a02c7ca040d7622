use Rattle.std.proofs.Common.{ℕ, ◌<◌, length}
use Rattle.ep_defined.proofs.Listing.{All-left, All-right}
use Rattle.ep_defined.proofs.images.add_list_guards.Goals as goal

pub add_guards-requires : goal.add_guards-requires
add_guards-requires c = All-left (λ (t : ℕ). t < length c.args.images.now) c.args.first.now c.args.second.now c.requires

pub add_guards-requires-2 : goal.add_guards-requires-2
add_guards-requires-2 c = All-right (λ (t : ℕ). t < length c.args.images.now) c.args.first.now c.args.second.now c.requires
