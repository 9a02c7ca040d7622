use Rattle.std.proofs.Common.{◌∷◌}
use Rattle.enc_linear.proofs.Clipping.{bounds_less, bounds_more}
use Rattle.enc_linear.proofs.folding.join.Goals as goal

pub returns-clause-bounds : goal.returns-clause-bounds
returns-clause-bounds c =
    let second = c.args.second.now in
    let others = c.args.sum.now.terms.items in
    let one = bounds_less c.args.sum.now.bounds c.in_ok-others.others c.args.first.now (second ∷ others) c.requires.bounds c.in_ok-others.ensures.least c.in_ok-others.ensures.greatest in
    let rest = bounds_less c.in_ok-others.others c.in_ok-rest.rest second others one c.in_ok-rest.ensures.least c.in_ok-rest.ensures.greatest in
    bounds_more c.in_ok-rest.rest c.in_ok-sum.field-0 c.in_ok-whole.whole others rest c.in_ok-sum.ensures.least c.in_ok-sum.ensures.greatest

pub returns-clause-gives_way : goal.returns-clause-gives_way
returns-clause-gives_way c =
    let second = c.args.second.now in
    let others = c.args.sum.now.terms.items in
    let one = bounds_less c.args.sum.now.bounds c.in_ok-others.others c.args.first.now (second ∷ others) c.requires.bounds c.in_ok-others.ensures.least c.in_ok-others.ensures.greatest in
    let rest = bounds_less c.in_ok-others.others c.in_ok-rest.rest second others one c.in_ok-rest.ensures.least c.in_ok-rest.ensures.greatest in
    c.in_ok-whole.ensures others c.requires.terms rest
