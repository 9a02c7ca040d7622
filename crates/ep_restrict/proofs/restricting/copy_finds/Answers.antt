use Rattle.std.proofs.Common.{ap, ◌∙◌, arith}
use Rattle.std.specs.Prelude.{map}
use Rattle.std.proofs.lemmas.List.{take_all}
use Rattle.ep_instance_parts.specs.Instances.{find_of}
use Rattle.ep_restrict.proofs.Copied.{map_more}
use Rattle.ep_restrict.proofs.restricting.copy_finds.Goals as goal

pub loop-find-preserved : goal.loop-find-preserved
loop-find-preserved c =
    ap (map find_of) c.in_ok-push.ensures.items
    ∙ map_more find_of c.loop-find.copies.items c.args.finds.now c.in_ok-copy.copy c.find-item.result c.loop-find.find-index c.loop-find-test.true c.loop-find.invariant
    (c.in_ok-copy.ensures ∙ ap find_of c.find-item.is)

pub returns : goal.returns
returns c = c.loop-find.invariant ∙ ap (map find_of) (take_all c.loop-find.find-index c.args.finds.now (omega (arith, c.loop-find-test.false)))
