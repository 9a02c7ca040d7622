use Rattle.ep_size.proofs.Words.{ap, ◌∙◌, seen_held, extent_fixed, type_in, fixed_extent, expr_tree, env_in, TellsValue, grid_of}
use Rattle.ep_size.proofs.extending.known_value.Goals as goal

pub returns-in-Some : goal.returns-in-Some
unfolding fixed_extent grid_of TellsValue
returns-in-Some c mode h v =
    let env = env_in c.args.scope in
    let e = expr_tree c.args.e.now in
    let value = v ∙ ap seen_held c.in-Some.is in
    record { extent = extent_fixed mode env e h ∙ ap (fixed_extent (type_in env e)) value; value = (h, value) }

pub returns-in_ok-ty-in-None : goal.returns-in_ok-ty-in-None
returns-in_ok-ty-in-None c mode h v =
    c.without_value.ensures mode (env_in c.args.scope) (expr_tree c.args.e.now) c.in_ok-ty-in-None.ensures h (v ∙ ap seen_held c.in-None.is)
