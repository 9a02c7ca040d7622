use Rattle.ep_size.proofs.Words.{ap, sym, ◌∙◌, ◌&&◌, is_some, not, option_map, decisions_in, cells_of, env_of}
use Rattle.ep_size.proofs.LookSteps.{cells_decided}
use Rattle.ep_size.proofs.standing.is_decision.Goals as goal

pub returns-then-is_quantified : goal.returns-then-is_quantified
returns-then-is_quantified c =
    let env = env_of c.args.scope.env.now in
    let name = c.args.name.now in
    sym (c.is_quantified.ensures.decided env ∙ ap (λ b. not b && decisions_in env name) c.if-is_quantified.true)

pub returns-in-Some : goal.returns-in-Some
returns-in-Some c =
    let env = env_of c.args.scope.env.now in
    let name = c.args.name.now in
    sym (c.is_quantified.ensures.decided env ∙ ap (λ b. not b && decisions_in env name) c.if-is_quantified.false ∙ cells_decided (env name)
    ∙ ap is_some (sym c.cells.ensures ∙ ap (option_map (λ d. cells_of d.now)) c.in-Some.is))

pub returns-in-None : goal.returns-in-None
returns-in-None c =
    let env = env_of c.args.scope.env.now in
    let name = c.args.name.now in
    sym (c.is_quantified.ensures.decided env ∙ ap (λ b. not b && decisions_in env name) c.if-is_quantified.false ∙ cells_decided (env name)
    ∙ ap is_some (sym c.cells.ensures ∙ ap (option_map (λ d. cells_of d.now)) c.in-None.is))
