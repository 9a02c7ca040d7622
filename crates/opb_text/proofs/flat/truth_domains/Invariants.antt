use Rattle.std.proofs.Common.{◌≡◌, take}
use Rattle.opb_text.specs.Flats.{truth_domains}
use Rattle.opb_text.proofs.flat.truth_domains.Given as goal

abbrev pub invariant-loop-var : goal.invariant-loop-var
invariant-loop-var l = l.domains.items ≡ truth_domains (take l.var-index l.vars)
