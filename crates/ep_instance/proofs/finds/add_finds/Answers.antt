use Rattle.std.proofs.Common.{sym, map}
use Rattle.std.proofs.lemmas.List.{append-nil}
use Rattle.ep_instance_parts.specs.Instances.{find_of}
use Rattle.ep_instance.proofs.FindSteps.{one_find}
use Rattle.ep_instance.proofs.finds.add_finds.Goals as goal

pub loop-name-init : goal.loop-name-init
loop-name-init c = sym (append-nil (map find_of c.args.finds.now.items))

pub loop-name-preserved : goal.loop-name-preserved
loop-name-preserved c =
    one_find c.args.shape.now c.args.names.now c.loop-name.name-index c.name-item.result _ _ _ _ c.loop-name-test.true c.name-item.is c.loop-name.invariant c.in_ok-find.ensures c.in_ok-push.ensures.items
