use Rattle.std.proofs.Common.{◌≤◌, [], List, ℤ, ap, arith, get_or, length, refl, ◌∙◌}
use Rattle.std.specs.Prelude.{map}
use Rattle.ep_base.specs.Intervals.{spanned}
use Rattle.ep_ground.specs.declared.cells.Cell.{Cell}
use Rattle.ep_reach.proofs.Reaching.{at_map, beyond, map_long, spanned_nothing}
use Rattle.ep_reach.proofs.reaches.cell_reach.Goals as goal

pub returns-then-place-cells : goal.returns-then-place-cells
returns-then-place-cells c =
    let cells = c.args.cells.now in
    let one = c.index-cells-place.result in
    c.widened.ensures ∙ c.span_of_set.ensures ∙ ap spanned (at_map {A = Cell} (λ x. x.values) cells c.args.cell (get_or cells c.args.cell one) one [] c.if-place-cells.true refl)

pub returns : goal.returns
returns c =
    let sets : List (List ℤ) = map {A = Cell} (λ x. x.values) c.args.cells.now in
    let long : length sets ≤ c.args.cell = omega (arith, c.if-place-cells.false, map_long {A = Cell} {B = List ℤ} (λ x. x.values) c.args.cells.now) in
    c.only.ensures ∙ spanned_nothing ∙ ap spanned (beyond sets c.args.cell [] long)
