use Rattle.ep_unroll.proofs.Words.{length, sym, ◌∙◌, mode_in}
use Rattle.ep_ground.specs.Nodes.{parts_of}
use Rattle.ep_unroll.proofs.FormSteps.{none_known}
use Rattle.ep_unroll.proofs.FormValues.{if_ok}
use Rattle.ep_unroll.proofs.TruthSteps.{no_truth_put, no_value_put}
use Rattle.ep_unroll.proofs.truths.no_truth.Goals as goal

pub put-requires : goal.put-requires
unfolding parts_of
put-requires c = none_known (length c.args.arena.now)

pub put-requires-in-Strict : goal.put-requires-in-Strict
unfolding parts_of
put-requires-in-Strict c = none_known (length c.args.arena.now)

pub returns-in-Relational : goal.returns-in-Relational
returns-in-Relational c =
    if_ok c.put.result _ _ (λ t put. no_truth_put c.args.arena.now c.put.new.arena (mode_in c.args.scope) t (sym c.mode.ensures.mode ∙ c.in-Relational.is) put) c.put.ensures

pub returns-in-Strict : goal.returns-in-Strict
returns-in-Strict c =
    if_ok c.put-in-Strict.result _ _ (λ t put. no_value_put c.args.arena.now c.put-in-Strict.new.arena (mode_in c.args.scope) t (sym c.mode.ensures.mode ∙ c.in-Strict.is) put) c.put-in-Strict.ensures
