use Rattle.ep_unroll.proofs.Words.{ap, sym, ◌∙◌, option_map, cells_of, env_of, env_in, mode_in, only_cells_is, first_in, numbering_of}
use Rattle.ep_unroll.proofs.PartSteps.{stands_for}
use Rattle.ep_unroll.proofs.named.block_named.Goals as goal

pub returns-in-Some-cells : goal.returns-in-Some-cells
returns-in-Some-cells c =
    let env = env_of c.args.scope.env.now in
    let name = c.args.name.now in
    let d = c.in-Some-cells.domain.now in
    stands_for (numbering_of (mode_in c.args.scope) c.args.table.now) (env_in c.args.scope) name c.in-Some.first d.of d.indices.items d.values c.deref-in-Some-cells.result.now
    (ap (λ fs. first_in fs name) (sym c.deref.ensures.value) ∙ sym c.first_cell.ensures ∙ c.in-Some.is) (c.is_quantified.ensures env c.if-is_quantified.false
    ∙ only_cells_is (env name) d.of d.indices.items d.values (sym c.cells.ensures ∙ ap (option_map (λ x. cells_of x.now)) c.in-Some-cells.is))
    c.deref-in-Some-cells.ensures.value
