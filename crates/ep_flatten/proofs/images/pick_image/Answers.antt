use Rattle.std.proofs.Common.{◌<◌, arith, length}
use Rattle.ep_ground.specs.Nodes.{safe_pick}
use Rattle.ep_numbers.specs.Spans.{interval_of}
use Rattle.ep_flatten.specs.Forms.{own}
use Rattle.ep_flatten.proofs.Adding.{if_ok_then}
use Rattle.ep_flatten.proofs.ImageSteps.{hull_holds, pick_holds}
use Rattle.ep_flatten.proofs.images.pick_image.Goals as goal

pub returns-then-parts-eq0 : goal.returns-then-parts-eq0
returns-then-parts-eq0 c =
    if_ok_then c.domain_of.result c.domain_of.ensures
    (λ set h. hull_holds c.args.vars.now c.args.places.now (safe_pick c.args.parts.now c.args.keys.now c.args.indices.now) own (interval_of c.args.span) set c.requires h)

pub returns : goal.returns
returns c =
    let some : 0 < length c.args.parts.now = grind (arith, c.if-parts-eq0.false) in
    if_ok_then c.joined_image.result c.joined_image.ensures
    (λ set image. pick_holds c.args.vars.now c.args.places.now c.args.parts.now c.args.keys.now c.args.indices.now (interval_of c.args.span) set c.requires some image)
