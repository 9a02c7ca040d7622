use Rattle.ep_size.proofs.Words.{◌+◌, ◌∷◌, ℕ, List, ap, drop, sym, ◌∙◌, drop_all, drop_more, Expr, seen_held, env_in, mode_in}
use Rattle.ep_size.proofs.GeneratedSteps.{conditions_begin, conditions_end, conditions_more}
use Rattle.ep_size.proofs.generating.all_true.Goals as goal

pub loop-condition-init : goal.loop-condition-init
loop-condition-init c = conditions_begin (mode_in c.args.scope) (env_in c.args.scope) c.args.totals.now c.args.conditions.now

pub loop-condition-preserved : goal.loop-condition-preserved
loop-condition-preserved c =
    let xs : List Expr = c.args.conditions.now in
    let k : ℕ = c.loop-condition.condition-index in
    conditions_more (mode_in c.args.scope) (env_in c.args.scope) c.args.totals.now c.loop-condition.totals c.fixed_value.new.totals xs _ c.condition-item.result (drop (k + 1) xs)
    c.loop-condition.holds c.is_true.result c.are_both-holds.result (seen_held c.in_ok-seen.seen) c.loop-condition.invariant
    (drop_more xs k _ c.loop-condition-test.true ∙ ap (λ y. y ∷ drop (k + 1) xs) (sym c.condition-item.is)) c.in_ok-seen.ensures c.is_true.ensures c.are_both-holds.ensures

pub returns : goal.returns
returns c =
    let xs : List Expr = c.args.conditions.now in
    conditions_end (mode_in c.args.scope) (env_in c.args.scope) c.args.totals.now c.loop-condition.totals xs _ c.loop-condition.holds c.loop-condition.invariant
    (drop_all c.loop-condition.condition-index xs c.loop-condition-test.false)
