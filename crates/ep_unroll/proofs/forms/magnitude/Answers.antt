use Rattle.ep_unroll.proofs.Words.{length}
use Rattle.ep_ground.specs.Nodes.{parts_of}
use Rattle.ep_unroll.proofs.FormSteps.{one_known}
use Rattle.ep_unroll.proofs.forms.magnitude.Goals as goal

pub put-requires : goal.put-requires
unfolding parts_of
put-requires c = one_known c.args.part (length c.args.arena.now) c.requires
