use Rattle.ep_eval.proofs.Words.{ap, ◌∙◌, arith, length, ◌≡◌, ◌≢◌, ValueType}
use Rattle.ep_eval.proofs.JudgingForms.{shape_matrix, shape_scalar}
use Rattle.ep_eval.proofs.environments.shape_type.Goals as goal

pub returns-then-len-eq0 : goal.returns-then-len-eq0
returns-then-len-eq0 c =
    let d = c.args.domain.now in
    let none : length d.indices.items ≡ 0 = grind (arith, c.len.ensures, c.if-len-eq0.true) in
    c.of_scalar.ensures ∙ shape_scalar d.of d.indices.items none

pub returns : goal.returns
returns c =
    let d = c.args.domain.now in
    let same : c.len-2.result ≡ length d.indices.items = omega (arith, c.len-2.ensures, d.indices.ok.0) in
    let some : length d.indices.items ≢ 0 = λ e. grind (arith, e, c.len.ensures, c.if-len-eq0.false) in
    ap (λ n. ValueType.Matrix n d.of) same ∙ shape_matrix d.of d.indices.items some
