use Rattle.std.proofs.Common.{[], ◌∷◌, codes}
use Rattle.ep_print.proofs.Arms.{puts_three}
use Rattle.ep_print.proofs.Sentences.{groups_listed}
use Rattle.ep_print.proofs.Puts.{puts_both}
use Rattle.ep_print.proofs.Turns.{turn, turns_end}
use Rattle.ep_print.proofs.statements.push_groups.Goals as goal

pub loop-group-preserved : goal.loop-group-preserved
loop-group-preserved c = turn _ _ groups_listed (codes "," ∷ []) c.loop-group.started c.args.groups.now c.loop-group.group-index c.group-item.result _ c.push_between.new.text.items _ _ c.loop-group-test.true c.group-item.is c.in_ok-push_between.ensures
    (puts_three _ _ _ _ _ _ _ (rw c.deref.ensures.value at c.in_ok-push_placed.ensures) c.in_ok-push_word-2.ensures c.in_ok-push_domain.ensures) c.loop-group.invariant

pub returns : goal.returns
returns c = puts_both _ _ _ _ _ c.in_ok-push_word.ensures (turns_end _ _ groups_listed (codes "," ∷ []) c.loop-group.started c.args.groups.now c.loop-group.group-index _ _ c.loop-group-test.false c.loop-group.invariant)
