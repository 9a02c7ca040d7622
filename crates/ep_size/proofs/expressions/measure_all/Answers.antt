use Rattle.ep_size.proofs.Words.{◌+◌, ◌∷◌, ℕ, List, ap, drop, sym, ◌∙◌, drop_all, drop_more, Expr, env_of}
use Rattle.ep_size.proofs.ClauseSteps.{clauses_begin, clauses_end, clauses_more}
use Rattle.ep_size.proofs.expressions.measure_all.Goals as goal

pub loop-clause-init : goal.loop-clause-init
loop-clause-init c = clauses_begin c.args.env.now.mode (env_of c.args.env.now) c.args.totals.now c.args.clauses.now

pub loop-clause-preserved : goal.loop-clause-preserved
loop-clause-preserved c =
    let xs : List Expr = c.args.clauses.now in
    let k : ℕ = c.loop-clause.clause-index in
    clauses_more c.args.env.now.mode (env_of c.args.env.now) c.args.totals.now c.loop-clause.totals c.measure_one.new.totals xs _ c.clause-item.result (drop (k + 1) xs) c.loop-clause.invariant
    (drop_more xs k _ c.loop-clause-test.true ∙ ap (λ y. y ∷ drop (k + 1) xs) (sym c.clause-item.is)) c.in_ok-measure_one.ensures

pub returns : goal.returns
returns c =
    let xs : List Expr = c.args.clauses.now in
    clauses_end c.args.env.now.mode (env_of c.args.env.now) c.args.totals.now c.loop-clause.totals xs _ c.loop-clause.invariant (drop_all c.loop-clause.clause-index xs c.loop-clause-test.false)
