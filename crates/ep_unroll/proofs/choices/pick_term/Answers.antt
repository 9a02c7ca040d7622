use Rattle.ep_unroll.proofs.Words.{length, ◌<◌, All-append}
use Rattle.ep_ground.specs.Nodes.{parts_of}
use Rattle.ep_unroll.proofs.choices.pick_term.Goals as goal

pub put-requires : goal.put-requires
unfolding parts_of
put-requires c = All-append (λ t. t < length c.args.arena.now) c.args.entries.terms.items c.args.indices.items c.requires.terms c.requires.indices
