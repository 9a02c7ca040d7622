use Rattle.ep_eval.proofs.Words.{Some, ℤ, List, sym, ap, ◌∙◌, w64, rules, to_z-of_z, has_number, number_in, truth_in, seen_held}
use Rattle.ep_eval.proofs.Both.{both_some, first_none, second_none}
use Rattle.ep_eval.proofs.ListLaws.{has_is}
use Rattle.ep_eval.proofs.orders.within.Goals as goal

pub returns-in-Some-number_of : goal.returns-in-Some-number_of
returns-in-Some-number_of c =
    let n : ℤ = c.in-Some-number_of.number in
    let set : List ℤ = c.in-Some.set in
    c.truth_value.ensures
    ∙ ap (λ b. truth_in c.args.mode (Some b)) (has_is c.has.result set _ c.has.ensures.0 c.has.ensures.1 ∙ ap (has_number set) (to_z-of_z w64 n (search rules)))
    ∙ ap (truth_in c.args.mode) (sym (both_some has_number c.args.set.now (number_in (seen_held c.args.seen.now)) set n c.in-Some.is (sym c.number_of.ensures ∙ c.in-Some-number_of.is)))

pub returns-in-None-number_of : goal.returns-in-None-number_of
returns-in-None-number_of c =
    c.truth_value-in-None-number_of.ensures
    ∙ ap (truth_in c.args.mode) (sym (second_none has_number c.args.set.now (number_in (seen_held c.args.seen.now)) c.in-Some.set c.in-Some.is (sym c.number_of.ensures ∙ c.in-None-number_of.is)))

pub returns-in-None : goal.returns-in-None
returns-in-None c =
    c.truth_value-in-None.ensures
    ∙ ap (truth_in c.args.mode) (sym (first_none has_number c.args.set.now (number_in (seen_held c.args.seen.now)) c.in-None.is))
