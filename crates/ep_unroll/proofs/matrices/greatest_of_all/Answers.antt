use Rattle.ep_unroll.proofs.Words.{length, sym, ◌∙◌}
use Rattle.ep_ground.specs.Nodes.{parts_of}
use Rattle.ep_unroll.proofs.FormSteps.{none_known}
use Rattle.ep_unroll.proofs.FormValues.{if_ok}
use Rattle.ep_unroll.proofs.MatrixSteps.{greatest_put, none_greatest}
use Rattle.ep_unroll.proofs.matrices.greatest_of_all.Goals as goal

pub put-requires : goal.put-requires
unfolding parts_of
put-requires c = none_known (length c.args.arena.now)

pub put-requires-2 : goal.put-requires-2
unfolding parts_of
put-requires-2 c = c.requires

pub returns-then-is_none : goal.returns-then-is_none
returns-then-is_none c =
    if_ok c.put.result _ _ (λ t put. none_greatest c.args.arena.now c.put.new.arena c.args.terms.items t (sym c.deref.ensures.value ∙ c.is_none.ensures.none c.if-is_none.true) put) c.put.ensures

pub returns : goal.returns
returns c = if_ok c.put-2.result _ _ (λ t put. greatest_put c.args.arena.now c.put-2.new.arena c.args.terms.items t c.requires put) c.put-2.ensures
