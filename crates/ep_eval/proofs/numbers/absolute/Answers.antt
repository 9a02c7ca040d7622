use Rattle.ep_eval.proofs.Words.{Some, pos, sym, ap, subst, ◌∙◌, arith, w64, to_z, of_z, ints, to_z-of_z, w128, nat_abs, option_map, absolute_of, number_value, single, Gives, absolute_is}
use Rattle.ep_eval.proofs.numbers.absolute.Goals as goal

pub returns-in-Some : goal.returns-in-Some
returns-in-Some c =
    let n = c.in-Some.number in
    let word = to_z-of_z w64 n (omega (arith, ints)) in
    let wide = to_z-of_z w128 n (omega (arith, ints)) in
    let taken = to_z-of_z w128 c.abs.result (omega (arith, ints)) in
    subst (Gives c.number_seen.result)
    (ap (λ m. Some (single m)) (taken ∙ c.abs.ensures.value ∙ ap (λ m. pos (nat_abs m)) (ap (λ m. to_z w128 (of_z w128 m)) (c.from.ensures ∙ word) ∙ wide) ∙ absolute_is n)
    ∙ ap (λ o. number_value (option_map absolute_of o)) (sym c.in-Some.is ∙ c.number_of.ensures))
    c.number_seen.ensures
