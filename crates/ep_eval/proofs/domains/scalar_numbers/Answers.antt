use Rattle.ep_eval.proofs.Words.{Some, ap, ◌∙◌, arith, length, ◌≡◌, ◌≢◌}
use Rattle.ep_eval.proofs.RangeNumbers.{matrix_domain_has_none, scalar_domain}
use Rattle.ep_eval.proofs.domains.scalar_numbers.Goals as goal

pub returns-then-len-eq0 : goal.returns-then-len-eq0
returns-then-len-eq0 c =
    let d = c.args.domain.now in
    let none : length d.indices.items ≡ 0 = grind (arith, c.len.ensures, c.if-len-eq0.true) in
    ap Some c.in_ok-values.ensures ∙ scalar_domain d.of d.indices.items d.values none

pub returns : goal.returns
returns c =
    let d = c.args.domain.now in
    let some : length d.indices.items ≢ 0 = λ e. grind (arith, e, c.len.ensures, c.if-len-eq0.false) in
    matrix_domain_has_none d.of d.indices.items d.values some
