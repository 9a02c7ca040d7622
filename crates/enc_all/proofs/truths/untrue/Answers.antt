use Rattle.std.proofs.Common.{◌∙◌, ap, map, false}
use Rattle.std.proofs.lemmas.List.{take_all}
use Rattle.enc_all.proofs.truths.untrue.Goals as goal

pub returns : goal.returns
returns c = c.loop-x.invariant ∙ ap (map (λ x. (false, x))) (take_all c.loop-x.x-index c.args.xs.now c.loop-x-test.false)
