use Rattle.ep_unroll.proofs.Words.{ap, sym, ◌∙◌, ◌&&◌, map_both, no_runs, all_true, values_of, expr_trees, mode_in}
use Rattle.ep_unroll.proofs.PartListSteps.{no_truths, truths_cut}
use Rattle.ep_unroll.proofs.comprehensions.+conditions_hold.Goals as goal

pub returns-in_ok-own-in-Some : goal.returns-in_ok-own-in-Some
returns-in_ok-own-in-Some t c n r =
    truths_cut (mode_in c.args.scope) r.values c.args.conditions.now c.in-Some.first.now c.in-Some.later.now c.in-Some.ensures.cases.0
    ∙ ap (λ o. map_both ◌&&◌ o (all_true (values_of (mode_in c.args.scope) r.values (expr_trees c.in-Some.later.now)))) (c.in_ok-own-in-Some.ensures n r)
    ∙ ap (map_both ◌&&◌ c.in_ok-own-in-Some.own) (c.in_ok-others-in-Some.ensures n r)
    ∙ sym c.both_hold.ensures

pub returns-in-None : goal.returns-in-None
returns-in-None t c n r = no_truths (mode_in c.args.scope) r.values c.args.conditions.now (no_runs c.args.conditions.now c.in-None.ensures.cases)
