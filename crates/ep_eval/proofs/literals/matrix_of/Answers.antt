use Rattle.ep_eval.proofs.Words.{◌≡◌, ap, sym, ◌∙◌, length, Some, None, option_map, map, length-map, value_tree-matrix, matrix, value_tree, held_value}
use Rattle.ep_eval.proofs.LiteralForms.{counted_values, indices_differ, indices_match}
use Rattle.ep_eval.proofs.Lists.{values_from-map}
use Rattle.ep_eval.proofs.literals.matrix_of.Goals as goal

pub returns-in-Some : goal.returns-in-Some
unfolding held_value
returns-in-Some c =
    let parts = c.args.parts.items in
    let own = c.in-Some.own.items in
    ap Some (value_tree-matrix c.in-Some.own c.args.parts ∙ ap (matrix own) (values_from-map parts))
    ∙ indices_match c.args.set.now (map value_tree parts) own _ (c.len.ensures ∙ counted_values c.args.parts ∙ sym (length-map parts value_tree))
    (ap (option_map (λ v. v.items)) (sym c.in-Some.is) ∙ c.in_ok-own.ensures)

pub returns : goal.returns
returns c =
    let parts = c.args.parts.items in
    indices_differ c.args.set.now (map value_tree parts) _ (c.len.ensures ∙ counted_values c.args.parts ∙ sym (length-map parts value_tree))
    (ap (option_map (λ v. v.items)) (sym c.in-None.is) ∙ c.in_ok-own.ensures)
