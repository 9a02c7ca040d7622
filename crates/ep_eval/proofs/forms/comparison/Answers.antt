use Rattle.ep_eval.proofs.Words.{ap, sym, Some, ◌∙◌, arith, w64, to_z, of_z, ints, to_z-of_z, compare_holds, number_in, truth_in, seen_held}
use Rattle.ep_eval.proofs.Both.{both_some, first_none, second_none}
use Rattle.ep_eval.proofs.forms.comparison.Goals as goal

pub returns-in-Some-number_of : goal.returns-in-Some-number_of
returns-in-Some-number_of c =
    let a = number_in (seen_held c.args.first.now) in
    let b = number_in (seen_held c.args.second.now) in
    let left = to_z-of_z w64 c.in-Some.left (omega (arith, ints)) in
    let right = to_z-of_z w64 c.in-Some-number_of.right (omega (arith, ints)) in
    c.truth_value.ensures
    ∙ ap (truth_in c.args.mode)
    (ap Some (c.holds.ensures ∙ ap (λ x. compare_holds c.args.op x (to_z w64 (of_z w64 c.in-Some-number_of.right))) left ∙ ap (compare_holds c.args.op c.in-Some.left) right)
    ∙ sym (both_some (compare_holds c.args.op) a b c.in-Some.left c.in-Some-number_of.right (sym c.number_of.ensures ∙ c.in-Some.is) (sym c.number_of-in-Some.ensures ∙ c.in-Some-number_of.is)))

pub returns-in-None-number_of : goal.returns-in-None-number_of
returns-in-None-number_of c =
    let a = number_in (seen_held c.args.first.now) in
    let b = number_in (seen_held c.args.second.now) in
    c.truth_value-in-None-number_of.ensures
    ∙ ap (truth_in c.args.mode)
    (sym (second_none (compare_holds c.args.op) a b c.in-Some.left (sym c.number_of.ensures ∙ c.in-Some.is) (sym c.number_of-in-Some.ensures ∙ c.in-None-number_of.is)))

pub returns-in-None : goal.returns-in-None
returns-in-None c =
    let a = number_in (seen_held c.args.first.now) in
    let b = number_in (seen_held c.args.second.now) in
    c.truth_value-in-None.ensures
    ∙ ap (truth_in c.args.mode) (sym (first_none (compare_holds c.args.op) a b (sym c.number_of.ensures ∙ c.in-None.is)))
