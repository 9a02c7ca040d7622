use Rattle.ep_eval.proofs.Words.{Some, sym, ap, ◌∙◌, w64, rules, option_map, to_z-of_z, has_number, number_in, scalars_in, truth_in, seen_held}
use Rattle.ep_eval.proofs.Both.{both_some, first_none, second_none}
use Rattle.ep_eval.proofs.orders.membership.Goals as goal

pub returns-in-Some-number_of : goal.returns-in-Some-number_of
returns-in-Some-number_of c =
    let n = c.in-Some-number_of.number in
    let parts = c.in-Some.parts in
    c.truth_value.ensures
    ∙ ap (λ b. truth_in c.args.mode (Some b)) (c.has_number.ensures ∙ ap (has_number c.deref.result.now) (to_z-of_z w64 n (search rules)) ∙ ap (λ l. has_number l n) c.deref.ensures.value)
    ∙ ap (truth_in c.args.mode) (sym (both_some has_number (scalars_in (seen_held c.args.set.now)) (number_in (seen_held c.args.seen.now)) parts.items n
    (sym c.in_ok-parts.ensures ∙ ap (option_map (λ v. v.items)) c.in-Some.is) (sym c.number_of.ensures ∙ c.in-Some-number_of.is)))

pub returns-in-Some : goal.returns-in-Some
returns-in-Some c =
    c.truth_value-in-None-number_of.ensures
    ∙ ap (truth_in c.args.mode) (sym (second_none has_number (scalars_in (seen_held c.args.set.now)) (number_in (seen_held c.args.seen.now)) c.in-Some.parts.items
    (sym c.in_ok-parts.ensures ∙ ap (option_map (λ v. v.items)) c.in-Some.is) (sym c.number_of.ensures ∙ c.in-None-number_of.is)))

pub returns : goal.returns
returns c =
    c.truth_value-in-None.ensures
    ∙ ap (truth_in c.args.mode) (sym (first_none has_number (scalars_in (seen_held c.args.set.now)) (number_in (seen_held c.args.seen.now))
    (sym c.in_ok-parts.ensures ∙ ap (option_map (λ v. v.items)) c.in-None.is)))
