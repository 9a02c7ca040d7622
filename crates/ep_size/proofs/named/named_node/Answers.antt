use Rattle.ep_size.proofs.Words.{ap, sym, ◌∙◌, option_map, cells_of, env_of, env_in, mode_in}
use Rattle.ep_size.proofs.LookSteps.{only_cells_is}
use Rattle.ep_size.proofs.named.named_node.Goals as goal

pub returns-in-Some : goal.returns-in-Some
returns-in-Some c p t =
    let env = env_of c.args.scope.env.now in
    let name = c.args.name.now in
    let d = c.in-Some.domain.now in
    c.cells_node.ensures (mode_in c.args.scope) (env_in c.args.scope) name p t
    (c.is_quantified.ensures.apart env c.if-is_quantified.false
    ∙ only_cells_is (env name) d.of d.indices.items d.values (sym c.cells.ensures ∙ ap (option_map (λ x. cells_of x.now)) c.in-Some.is))
