use Rattle.std.proofs.Common.{ap, ◌∙◌}
use Rattle.std.proofs.lemmas.List.{take_all}
use Rattle.opb_text.specs.Flats.{truth_domains}
use Rattle.opb_text.proofs.flat.truth_domains.Goals as goal

pub returns : goal.returns
returns c = c.loop-var.invariant ∙ ap truth_domains (take_all c.loop-var.var-index c.args.vars.now c.loop-var-test.false)
