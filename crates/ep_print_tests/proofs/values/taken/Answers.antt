use Rattle.std.proofs.Common.{[], ◌∷◌, ◌++◌, List, pos, refl, ap, ◌∙◌}
use Rattle.ep_tree.specs.TypedValues.{is_number_of}
use Rattle.ep_tree.specs.Values.{listed_values}
use Rattle.ep_tree.specs.Views.{value_tree, values_from}
use Rattle.ep_tree.specs.declared.values.Value.{Number, Value}
use Rattle.ep_print.proofs.Rows.{row_is}
use Rattle.ep_print_tests.proofs.values.taken.Goals as goal

pub returns : goal.returns
unfolding values_from value_tree listed_values is_number_of
returns c =
    row_is c.in_ok-from_slice.field-0 c.push-3.new.self (pos 1 ∷ pos 2 ∷ pos 3 ∷ []) (Number (pos 1) ∷ Number (pos 1) ∷ Number (pos 0) ∷ []) c.in_ok-from_slice.ensures.items
    (c.in_ok-push-3.ensures.items ∙ ap (λ (vs : List Value). vs ++ (Number (pos 0) ∷ []))
    (c.in_ok-push-2.ensures.items ∙ ap (λ (vs : List Value). vs ++ (Number (pos 1) ∷ [])) (c.in_ok-push.ensures.items ∙ ap (λ (vs : List Value). vs ++ (Number (pos 1) ∷ [])) c.new-parts.ensures.items)))
    (refl, (refl, (refl, (refl, tt))))
