use Rattle.ep_eval.proofs.Words.{◌≡◌, Some, None, ◌+ℤ◌, sym, ◌∙◌, arith, w64, to_z, of_z, subst, ap, FitsSigned, option_map, w128, ints, to_z-of_z, signed}
use Rattle.ep_eval.proofs.TermSteps.{adds_none, adds_number}
use Rattle.ep_eval.proofs.totals.with_term.Goals as goal

pub returns-in-Some-term : goal.returns-in-Some-term
returns-in-Some-term c =
    let sum = c.in-Some.sum in
    let number = c.in-Some-term.number in
    let more = c.with_number.result in
    let left : to_z w128 (of_z w128 sum) ≡ sum = to_z-of_z w128 sum (omega (arith, ints)) in
    let word : to_z w64 (of_z w64 number) ≡ number = to_z-of_z w64 number (omega (arith, ints)) in
    let right : to_z w128 (of_z w128 c.signed.result) ≡ c.signed.result = to_z-of_z w128 c.signed.result (omega (arith, ints)) in
    adds_number c.args.plus sum number c.signed.result c.args.total c.args.term more
    c.in-Some.is c.in-Some-term.is (omega (arith, ints)) (c.signed.ensures ∙ ap (signed c.args.plus) word)
    (subst (λ m. FitsSigned w128 (sum +ℤ m) → more ≡ Some (sum +ℤ m)) right
    (subst (λ s. FitsSigned w128 (s +ℤ to_z w128 (of_z w128 c.signed.result)) → more ≡ Some (s +ℤ to_z w128 (of_z w128 c.signed.result))) left c.with_number.ensures))

pub returns-in-None-term : goal.returns-in-None-term
returns-in-None-term c =
    adds_none c.args.total (option_map (signed c.args.plus) c.args.term) (λ s e. ap (option_map (signed c.args.plus)) c.in-None-term.is)

pub returns-in-None : goal.returns-in-None
returns-in-None c =
    adds_none c.args.total (option_map (signed c.args.plus) c.args.term) (λ s e. absurd (let f = sym c.in-None.is ∙ e in cc))
