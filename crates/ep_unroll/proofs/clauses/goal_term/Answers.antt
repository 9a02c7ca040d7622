use Rattle.ep_unroll.proofs.Words.{refl, subst, sym, Some, None, option_map, env_of, with_all, goal_of, IsGoal, numbering_of}
use Rattle.ep_unroll.proofs.MeaningSteps.{grows_none}
use Rattle.ep_unroll.proofs.clauses.goal_term.Goals as goal

pub returns-in_default : goal.returns-in_default
unfolding IsGoal
returns-in_default c =
    subst (λ o. IsGoal (numbering_of c.args.env.now.mode c.args.table.now) (env_of c.args.env.now) c.args.arena.now c.args.arena.now (option_map (λ x. goal_of x.now) o) None) (sym c.in_default.is)
    (grows_none c.args.arena.now c.args.arena.now refl)

pub returns : goal.returns
unfolding IsGoal with_all
returns c =
    subst (λ o. IsGoal (numbering_of c.args.env.now.mode c.args.table.now) (env_of c.args.env.now) c.args.arena.now c.term_of.new.arena (option_map (λ x. goal_of x.now) o) (Some (c.in-Some.objective.now.sense, c.in_ok-term.term))) (sym c.in-Some.is)
    (refl, c.in_ok-term.ensures)
