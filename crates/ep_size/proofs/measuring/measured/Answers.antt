use Rattle.ep_size.proofs.Words.{◌≡◌, ap, subst, sym, ◌∙◌, map, option_map, option_to_list, err_from_is_err_and, env_of, goal_of, instance_mode, plain_instance, met_in, put_all, cells_bound, expr_tree, IsTooMany, Told, Celled, all_cells}
use Rattle.ep_size.proofs.RemainingSteps.{mapped_twice}
use Rattle.ep_size.proofs.Wholes.{behind_cells, env_within, goal_within, moved, whole}
use Rattle.ep_size.proofs.measuring.measured.Goals as goal

pub returns-in_err-cells-clause-cause : goal.returns-in_err-cells-clause-cause
returns-in_err-cells-clause-cause c =
    let p = err_from_is_err_and c.from_residual-in_err-cells.result c.from_residual-in_err-cells.ensures.1 in
    rw (p.1, p.2) (subst (λ fs. IsTooMany (all_cells fs) c.in_err-cells.field-0.0) c.finds.ensures c.in_err-cells.ensures.cause)

pub returns-clause-told : goal.returns-clause-told
returns-clause-told c =
    let i = plain_instance c.args.instance.now in
    let mode = instance_mode c.args.instance.now in
    let env = c.name_cells.new.env in
    let t = behind_cells c.in_ok-cells.cells in
    let u = c.measure_all.new.totals in
    let v = c.measure_goal.new.totals in
    let same_mode : env.mode ≡ mode = c.name_cells.ensures.mode ∙ c.in_ok-env.ensures.mode ∙ ap (λ e. e.mode) c.env.ensures in
    let same_env : env_of env ≡ env_within i =
    c.in_ok-cells.ensures.known
    ∙ ap (λ fs. put_all (cells_bound fs) (env_of c.in_ok-env.env)) c.finds.ensures
    ∙ ap (put_all (cells_bound i.finds)) (c.in_ok-env.ensures.known ∙ ap env_of c.env.ensures) in
    let celled : Celled c.in_ok-cells.cells i.finds = subst (Celled c.in_ok-cells.cells) c.finds.ensures c.in_ok-cells.ensures.cells in
    let goals : option_to_list (option_map (λ o. expr_tree o.now.e) c.objective.result) ≡ goal_within i =
    ap option_to_list (sym (mapped_twice (λ g. g.1) (λ o. goal_of o.now) c.objective.result))
    ∙ ap (λ g. option_to_list (option_map (λ stated. stated.1) g)) c.objective.ensures in
    whole mode i c.in_ok-cells.cells u v celled
    (moved (λ m e es. Told m t u (met_in m e es) (Unit {0})) env.mode mode (env_of env) (env_within i) (map expr_tree c.clauses.result.now) i.clauses
    same_mode same_env c.clauses.ensures c.in_ok-measure_all.ensures)
    (moved (λ m e es. Told m u v (met_in m e es) (Unit {0})) env.mode mode (env_of env) (env_within i)
    (option_to_list (option_map (λ o. expr_tree o.now.e) c.objective.result)) (goal_within i) same_mode same_env goals c.in_ok-measure_goal.ensures)
