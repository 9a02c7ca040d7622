use Rattle.ep_size.proofs.Words.{◌+◌, [], length, subst, arith, unwrap_or, quantified_weight, quantified_span, IsNumberNode}
use Rattle.ep_size.proofs.instances.finish_quantifier.Goals as goal

pub returns-in-ForAll : goal.returns-in-ForAll
unfolding quantified_weight quantified_span
returns-in-ForAll c mode env e known h number =
    c.truth_node.ensures mode env e (length (unwrap_or known []) + 1)
    (omega (arith, c.told-in-ForAll.ensures, c.told.ensures, h.count))
    (subst (λ o. IsNumberNode mode env e (quantified_weight o (unwrap_or known [])) (quantified_span o known)) c.in-ForAll.is number)

pub returns-in-Exists : goal.returns-in-Exists
unfolding quantified_weight quantified_span
returns-in-Exists c mode env e known h number =
    c.truth_node-in-Exists.ensures mode env e (length (unwrap_or known []) + 1)
    (omega (arith, c.told-in-Exists-2.ensures, c.told-in-Exists.ensures, h.count))
    (subst (λ o. IsNumberNode mode env e (quantified_weight o (unwrap_or known [])) (quantified_span o known)) c.in-Exists.is number)
