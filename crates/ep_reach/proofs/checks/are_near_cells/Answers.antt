use Rattle.std.proofs.Common.{subst, sym, ◌∙◌}
use Rattle.std.specs.List.{All}
use Rattle.std.proofs.lemmas.List.Elements.{All-get_or, All-nil}
use Rattle.ep_base.specs.Reads.{IsWithinNumbers}
use Rattle.ep_ground.specs.declared.cells.Cell.{Cell}
use Rattle.ep_reach.proofs.Nodes.{all_next, all_whole}
use Rattle.ep_reach.proofs.checks.are_near_cells.Goals as goal

pub loop-cell-init : goal.loop-cell-init
loop-cell-init c = All-nil {X = Cell} (λ one. All IsWithinNumbers one.values)

pub loop-cell-preserved : goal.loop-cell-preserved
loop-cell-preserved c =
    all_next {A = Cell} (λ one. All IsWithinNumbers one.values) c.args.cells.now c.loop-cell.cell-index c.cell-item.result c.cell-item.result c.loop-cell-test.true c.cell-item.is
    c.loop-cell.invariant (c.is_near_set.ensures.sound c.if-not-is_near_set.false)

pub returns-clause-sound : goal.returns-clause-sound
returns-clause-sound c h = all_whole {A = Cell} (λ one. All IsWithinNumbers one.values) c.args.cells.now c.loop-cell.cell-index c.loop-cell-test.false c.loop-cell.invariant

pub returns-then-not-is_near_set-clause-complete : goal.returns-then-not-is_near_set-clause-complete
returns-then-not-is_near_set-clause-complete c h =
    let cells = c.args.cells.now in
    sym c.if-not-is_near_set.true
    ∙ c.is_near_set.ensures.complete
    (subst {A = Cell} (λ one. All IsWithinNumbers one.values) (sym c.cell-item.is)
    (All-get_or {X = Cell} (λ one. All IsWithinNumbers one.values) cells c.loop-cell.cell-index c.cell-item.result c.loop-cell-test.true h))
