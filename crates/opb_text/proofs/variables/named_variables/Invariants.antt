use Rattle.std.proofs.Common.{◌≡◌, take}
use Rattle.opb_text.specs.Contents.{objective_terms}
use Rattle.opb_text.specs.Views.{plain_opb}
use Rattle.opb_text.proofs.NamedOnce.{variables_with}
use Rattle.opb_text.proofs.variables.named_variables.Given as goal

abbrev pub invariant-loop-row : goal.invariant-loop-row
invariant-loop-row l = l.named.items ≡ variables_with (objective_terms (plain_opb l.opb)) (take l.row-index l.row-items)
