use Rattle.ep_size.proofs.Words.{◌≡◌, ℕ, ◌+◌, ◌*◌, ap, ◌∙◌, arith, length, sum_by, width, index_width, plain_span, interval_of, capped}
use Rattle.ep_size.proofs.Caps.{product_kept}
use Rattle.ep_size.proofs.HullSteps.{read_none, read_some}
use Rattle.ep_size.proofs.hulls.read_weight.Goals as goal

pub returns-then-not-is_decided-clause-weight : goal.returns-then-not-is_decided-clause-weight
returns-then-not-is_decided-clause-weight c is spans h wide left =
    read_none is (plain_span c.args.whole) spans c.args.is_decided c.if-not-is_decided.true h

pub returns-clause-weight : goal.returns-clause-weight
returns-clause-weight c is spans h wide left =
    let w : ℕ = width (interval_of c.args.whole.reach) in
    let s : ℕ = sum_by index_width is in
    let many : c.told-2.result ≡ capped (length spans) = omega (arith, c.told-2.ensures, left) in
    let broad : c.told-wide.result ≡ capped (w + s) =
    omega (arith, c.told-wide.ensures, c.told_count.ensures, c.width.ensures, c.told.ensures, wide) in
    c.product.ensures ∙ ap (λ n. capped (n * c.told-wide.result)) many ∙ ap (λ n. capped (capped (length spans) * n)) broad
    ∙ product_kept (length spans) (w + s)
    ∙ ap capped (read_some is (plain_span c.args.whole) spans c.args.is_decided c.if-not-is_decided.false h)
