use Rattle.ep_unroll.proofs.Words.{length, subst, sym, no_runs, HasNumber}
use Rattle.ep_ground.specs.Nodes.{parts_of}
use Rattle.ep_unroll.proofs.FormSteps.{none_known}
use Rattle.ep_unroll.proofs.FormValues.{if_ok}
use Rattle.ep_unroll.proofs.ProductSteps.{first_known, multiplied, others_known, product_none}
use Rattle.ep_unroll.proofs.products.product_term.Goals as goal

pub multiplied-requires : goal.multiplied-requires
multiplied-requires c = record {
  first = first_known (length c.args.arena.now) c.args.terms.now c.in-Some.first.now c.in-Some.others.now c.in-Some.ensures.cases.0 c.requires;
  others = others_known (length c.args.arena.now) c.args.terms.now c.in-Some.first.now c.in-Some.others.now c.in-Some.ensures.cases.0 c.requires;
}

pub put-requires : goal.put-requires
unfolding parts_of
put-requires c = none_known (length c.args.arena.now)

pub returns-in-Some : goal.returns-in-Some
returns-in-Some c =
    if_ok c.multiplied.result _ _ (λ t h. subst (λ ts. HasNumber c.args.arena.now c.multiplied.new.arena (multiplied c.args.arena.now ts) t) (sym c.in-Some.ensures.cases.0) h) c.multiplied.ensures

pub returns-in-None : goal.returns-in-None
returns-in-None c =
    if_ok c.put.result _ _
    (λ t put. subst (λ ts. HasNumber c.args.arena.now c.put.new.arena (multiplied c.args.arena.now ts) t) (sym (no_runs c.args.terms.now c.in-None.ensures.cases)) (product_none c.args.arena.now c.put.new.arena t put)) c.put.ensures
