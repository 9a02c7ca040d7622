use Rattle.std.proofs.Common.{Bool, List, ap, ◌∙◌, subst}
use Rattle.ep_flat.specs.Cons.{numbers_of_vars}
use Rattle.ep_flat.specs.FlatViews.{plain_map}
use Rattle.enc_var.specs.Layouts.{decoded_values}
use Rattle.sat_cubes.specs.Answers.{ComesOfCubes, is_variable_true}
use Rattle.sat_cubes.specs.declared.cubed.Cubed.TheVariants as cubed
use Rattle.ep_cubes.proofs.Marking.{found_sat, found_none, found_spent}
use Rattle.ep_cubes.proofs.finding.answer_of.Goals as goal

pub returns-in_ok-cells-in-Sat : goal.returns-in_ok-cells-in-Sat
returns-in_ok-cells-in-Sat c = λ f most budget is.
    let it : ComesOfCubes f most budget (cubed.Sat c.in-Sat.cube c.in-Sat.values c.in-Sat.log) = subst (ComesOfCubes f most budget) c.in-Sat.is is in
    let layout = c.args.layout.now in
    let m = plain_map c.args.cell_map.now in
    found_sat layout m f most budget it.vars it.are c.in-Sat.log.events c.in-Sat.cube c.in-Sat.values.items c.in_ok-cells-in-Sat.cells.items it.answer.0
    (c.in_ok-cells-in-Sat.ensures
    ∙ ap (λ (values : List Bool). numbers_of_vars (decoded_values layout (is_variable_true values)) c.as_slice.result.now) c.deref.ensures.value
    ∙ ap (numbers_of_vars (decoded_values layout (is_variable_true c.in-Sat.values.items))) c.as_slice.ensures.value)

pub returns-in-Unsat : goal.returns-in-Unsat
returns-in-Unsat c = λ f most budget is.
    let it : ComesOfCubes f most budget (cubed.Unsat c.in-Unsat.log) = subst (ComesOfCubes f most budget) c.in-Unsat.is is in
    found_none c.args.layout.now (plain_map c.args.cell_map.now) f most budget it.vars it.are c.in-Unsat.log.events it.answer.0

pub returns-in-Spent : goal.returns-in-Spent
returns-in-Spent c = λ f most budget is.
    let it : ComesOfCubes f most budget (cubed.Spent c.in-Spent.cube c.in-Spent.log) = subst (ComesOfCubes f most budget) c.in-Spent.is is in
    found_spent c.args.layout.now (plain_map c.args.cell_map.now) f most budget it.vars it.are c.in-Spent.log.events c.in-Spent.cube it.answer.0
