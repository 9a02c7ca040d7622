-- The text of parameters, line by line.
use Rattle.std.proofs.Common.{◌≡◌, ℕ, List, ◌++◌, codes, pos, sym, ap, ◌∙◌, append_assoc, append-nil}
use Rattle.ep_print.specs.Answers.{language_line, letting_text}
use Rattle.ep_tree.specs.Solutions.{NamedValue}
use Rattle.ep_tree.specs.Values.{ValueTree, single}
use Rattle.ep_tree.specs.declared.values.Scalar.{Scalar}
use Rattle.ep_tree.specs.declared.values.ValueType.{ValueType}
use Rattle.ep_gen.specs.Hints.{hints_of, order_of, square_value}
use Rattle.ep_gen.specs.Texts.{generated_params}

abbrev order_is : ValueTree → NamedValue
order_is v = record { name = codes "n"; ty = ValueType.Int; value = v }

abbrev hints_are : ValueTree → NamedValue
hints_are v = record { name = codes "hint"; ty = ValueType.Matrix 2 Scalar.Int; value = v }

-- the language line, the order's line and the hints' line
pub params_is : (number : ℕ) (begun ordered whole : List ℕ) (v w : ValueTree) → begun ≡ language_line
    → ordered ≡ begun ++ letting_text (order_is v) → whole ≡ ordered ++ letting_text (hints_are w)
    → v ≡ single (pos (order_of number)) → w ≡ square_value (order_of number) (hints_of number) → whole ≡ generated_params number
params_is number begun ordered whole v w e f g order hints =
    let one : List ℕ = letting_text (order_is (single (pos (order_of number)))) in
    let two : List ℕ = letting_text (hints_are (square_value (order_of number) (hints_of number))) in
    g ∙ ap (λ h. ordered ++ letting_text (hints_are h)) hints
    ∙ ap (λ t. t ++ two) (f ∙ ap (λ h. begun ++ letting_text (order_is h)) order ∙ ap (λ t. t ++ one) e)
    ∙ append_assoc language_line one two ∙ ap (λ t. language_line ++ (one ++ t)) (sym (append-nil two))
