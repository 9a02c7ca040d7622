use Rattle.ep_unroll.proofs.Words.{ap, ◌∙◌, env_of, plain_instance, put_all, cells_bound}
use Rattle.ep_unroll.proofs.cells.env_with_cells.Goals as goal

pub returns-clause-mode : goal.returns-clause-mode
returns-clause-mode c = c.name_finds.ensures.mode ∙ c.in_ok-env.ensures.mode ∙ ap (λ e. e.mode) c.env.ensures

pub returns-clause-known : goal.returns-clause-known
returns-clause-known c =
    c.in_ok-name_finds.ensures.known ∙ ap (λ fs. put_all (cells_bound fs) (env_of c.in_ok-env.env)) c.finds.ensures
    ∙ ap (put_all (cells_bound (plain_instance c.args.instance.now).finds)) (c.in_ok-env.ensures.known ∙ ap env_of c.env.ensures)
