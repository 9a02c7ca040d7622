use Rattle.std.proofs.Common.{ℕ, ◌<◌, length}
use Rattle.std.proofs.lemmas.List.Elements.{All-tail}
use Rattle.ep_defined.proofs.images.add_whole_guards.Goals as goal

pub add_guards-requires : goal.add_guards-requires
add_guards-requires c = All-tail (λ (t : ℕ). t < length c.args.images.now) c.args.first c.args.others.now c.requires
