use Rattle.ep_size.proofs.Words.{subst, arith, map, take, drop, ◌+◌, err_from_is_err_and, plain_span, Folds, RefusesFold}
use Rattle.ep_size.proofs.ListSteps.{fed, fed_all, fed_at_most, fed_whole}
use Rattle.ep_size.proofs.folds.fold_all.Goals as goal

pub loop-span-preserved : goal.loop-span-preserved
loop-span-preserved c =
    subst (λ xs. Folds c.in_ok-folding.folding c.args.op xs) (fed plain_span c.args.spans.now c.loop-span.span-index _ c.loop-span-test.true)
    (c.in_ok-folding.ensures.added c.args.op (map plain_span (take c.loop-span.span-index c.args.spans.now))
    (omega (arith, fed_at_most plain_span c.args.spans.now c.loop-span.span-index, c.well_formed.0.1)) c.loop-span.invariant)

pub returns-in_err-folding-clause-refused : goal.returns-in_err-folding-clause-refused
returns-in_err-folding-clause-refused c =
    let p = err_from_is_err_and c.from_residual.result c.from_residual.ensures.1 in
    let k = c.loop-span.span-index in
    let xs = c.args.spans.now in
    rw (p.1, p.2)
    (subst (λ ys. RefusesFold c.in_err-folding.field-0.0 c.args.op ys) (fed_whole plain_span xs k _ c.loop-span-test.true)
    (c.in_err-folding.ensures.refused c.args.op (map plain_span (take k xs)) (map plain_span (drop (k + 1) xs)) c.loop-span.invariant))

pub returns-clause-folded : goal.returns-clause-folded
returns-clause-folded c =
    subst (λ xs. Folds c.loop-span.folding c.args.op xs) (fed_all plain_span c.args.spans.now c.loop-span.span-index c.loop-span-test.false) c.loop-span.invariant
