use Rattle.ep_unroll.proofs.Words.{ap, ◌∙◌, flat_map, map, option_map, env_of, goal_of, plain_instance, instance_mode, expr_tree, find_cells, instance_cells, numbering, numbering_of}
use Rattle.ep_unroll.proofs.GroundSteps.{ground_is}
use Rattle.ep_unroll.proofs.unrolling.ground_of.Goals as goal

pub returns-clause-cells : goal.returns-clause-cells
unfolding instance_cells
returns-clause-cells c = c.in_ok-cells.ensures ∙ ap (flat_map find_cells) c.finds-2.ensures

pub returns-clause-terms : goal.returns-clause-terms
returns-clause-terms c =
    let mode = c.in_ok-env.env.mode in
    ground_is (instance_mode c.args.instance.now) (plain_instance c.args.instance.now) (numbering_of mode c.in_ok-table.table) (env_of c.in_ok-env.env) c.new-arena.result c.clause_terms.new.arena c.goal_term.new.arena
    (map expr_tree c.clauses.result.now) (option_map (λ o. goal_of o.now) c.objective.result) c.in_ok-cells.cells.items c.in_ok-clauses.clauses.items c.in_ok-objective.objective
    (c.in_ok-table.ensures mode ∙ ap (numbering mode) c.finds.ensures ∙ ap (λ m. numbering m (plain_instance c.args.instance.now).finds) c.in_ok-env.ensures.mode) c.in_ok-env.ensures.known c.clauses.ensures c.objective.ensures c.in_ok-clauses.ensures c.in_ok-objective.ensures
