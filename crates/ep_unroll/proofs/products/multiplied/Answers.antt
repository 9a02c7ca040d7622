use Rattle.ep_unroll.proofs.Words.{◌<◌, length, subst, sym}
use Rattle.ep_ground.specs.Nodes.{parts_of}
use Rattle.ep_unroll.proofs.ProductSteps.{product_all, product_begins, product_more, product_parts}
use Rattle.ep_unroll.proofs.products.multiplied.Goals as goal

pub loop-other-init : goal.loop-other-init
loop-other-init c = product_begins c.args.arena.now c.args.first c.args.others.now c.requires.first

pub put-requires : goal.put-requires
unfolding parts_of
put-requires c =
    let old = c.args.arena.now in
    product_parts old c.loop-other.arena c.args.first c.args.others.now c.loop-other.other-index c.other-item.result c.loop-other.product
    (subst (λ x. x < length old) (sym c.other-item.is) (c.requires.others c.loop-other.other-index _ c.loop-other-test.true)) c.loop-other.invariant

pub loop-other-preserved : goal.loop-other-preserved
loop-other-preserved c =
    let old = c.args.arena.now in
    product_more old c.loop-other.arena c.put.new.arena c.args.first c.args.others.now c.loop-other.other-index c.other-item.result _ c.loop-other.product c.in_ok-product.product
    c.loop-other-test.true c.other-item.is (subst (λ x. x < length old) (sym c.other-item.is) (c.requires.others c.loop-other.other-index _ c.loop-other-test.true)) c.loop-other.invariant
    c.in_ok-product.ensures

pub returns : goal.returns
returns c = product_all c.args.arena.now c.loop-other.arena c.args.first c.args.others.now c.loop-other.other-index c.loop-other.product c.loop-other-test.false c.loop-other.invariant
