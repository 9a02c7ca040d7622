use Rattle.ep_eval.proofs.Words.{Some, sym, ap, subst, ◌∙◌, arith, w64, to_z, of_z, ints, to_z-of_z, binary_number, binary_value, number_in, number_value, Gives, seen_held}
use Rattle.ep_eval.proofs.Quotients.{binary_first_none, binary_second_none, binary_some}
use Rattle.ep_eval.proofs.binaries.binary.Goals as goal

pub returns-in-Some-number_of : goal.returns-in-Some-number_of
returns-in-Some-number_of c =
    let mode = c.args.mode in
    let op = c.args.op in
    let b = number_in (seen_held c.args.second.now) in
    let x = c.in-Some.left in
    let y = c.in-Some-number_of.right in
    let left = to_z-of_z w64 x (omega (arith, ints)) in
    let right = to_z-of_z w64 y (omega (arith, ints)) in
    subst (Gives c.of_two.result)
    (ap (λ m. number_value (binary_number op m (to_z w64 (of_z w64 y)))) left ∙ ap (λ m. number_value (binary_number op x m)) right
    ∙ binary_some mode op x y
    ∙ ap (binary_value mode op (Some x)) (sym c.in-Some-number_of.is ∙ c.number_of-in-Some.ensures)
    ∙ ap (λ a. binary_value mode op a b) (sym c.in-Some.is ∙ c.number_of.ensures))
    c.of_two.ensures

pub returns-in-None-number_of : goal.returns-in-None-number_of
returns-in-None-number_of c =
    let mode = c.args.mode in
    let op = c.args.op in
    let b = number_in (seen_held c.args.second.now) in
    c.of_none.ensures
    ∙ binary_second_none mode op c.in-Some.left
    ∙ ap (binary_value mode op (Some c.in-Some.left)) (sym c.in-None-number_of.is ∙ c.number_of-in-Some.ensures)
    ∙ ap (λ a. binary_value mode op a b) (sym c.in-Some.is ∙ c.number_of.ensures)

pub returns-in-None : goal.returns-in-None
returns-in-None c =
    let mode = c.args.mode in
    let op = c.args.op in
    let b = number_in (seen_held c.args.second.now) in
    c.of_none-in-None.ensures
    ∙ binary_first_none mode op b
    ∙ ap (λ a. binary_value mode op a b) (sym c.in-None.is ∙ c.number_of.ensures)
