use Rattle.std.proofs.Common.{◌≡◌, ◌+◌, ◌*◌, min, take}
use Rattle.std.specs.Prelude.{sum_by}
use Rattle.opb_text.specs.Contents.{objective_terms}
use Rattle.opb_text.specs.Views.{plain_opb}
use Rattle.opb_text.specs.Weights.{terms_cost, most_weight}
use Rattle.opb_text.proofs.measure.weight_of.Given as goal

abbrev pub invariant-loop-row : goal.invariant-loop-row
invariant-loop-row l =
    l.weight ≡ min (2 * l.vars + (terms_cost (objective_terms (plain_opb l.opb)) + sum_by (λ row. terms_cost row.terms.items) (take l.row-index l.row-items))) (most_weight + 1)
