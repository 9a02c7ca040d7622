-- What an operator makes of the values of its parts.
use Rattle.std.specs.Prelude.{ℤ, neg_ℤ, not, Bool, List, Option, option_map, option_and_then, option_to_list}
use Rattle.ep_base.specs.Numbers.{absolute_of, are_different, compare_holds, counts_hold, factorial_of, has_number, is_row_of, lex_holds}
use Rattle.ep_base.specs.Options.{map_both, on_both, on_three}
use Rattle.ep_base.specs.declared.operators.CompareOp.{CompareOp}
use Rattle.ep_tree.specs.Evaluation.{binary_value, folded_value, number_in, number_value, rows_in, scalars_in, truth_in, truth_of}
use Rattle.ep_tree.specs.Values.{ValueTree, list_value}
use Rattle.ep_tree.specs.declared.values.Mode.{Mode}
use Rattle.ep_forms.specs.declared.forms.CountOp.{CountOp}
use Rattle.ep_forms.specs.declared.forms.OneOp.{OneOp}
use Rattle.ep_forms.specs.declared.forms.OneOp.TheVariants.{Group, Not, Neg, Abs, ToInt, Factorial, Flatten, AllDiff, Fold}
use Rattle.ep_forms.specs.declared.forms.TwoOp.{TwoOp}
use Rattle.ep_forms.specs.declared.forms.TwoOp.TheVariants.{Binary, Compare, Lex, InSet, Table}
use Rattle.ep_eval.specs.Folding.{folded_numbers}

-- the number of a value, if it is one
abbrev pub own_number : Option ValueTree → List ℤ
own_number v = option_to_list (number_in v)

-- what is made of one value
unfoldable pub one_value : Mode → OneOp → Option ValueTree → Option ValueTree
one_value mode Group v = v
one_value mode Not v = truth_in mode (option_map not (truth_of v))
one_value mode Neg v = number_value (option_map neg_ℤ (number_in v))
one_value mode Abs v = number_value (option_map absolute_of (number_in v))
one_value mode ToInt v = v
one_value mode Factorial v = number_value (option_and_then factorial_of (number_in v))
one_value mode Flatten v = option_map list_value (scalars_in v)
one_value mode AllDiff v = truth_in mode (option_map are_different (scalars_in v))
one_value mode (Fold op) v = folded_value mode op (scalars_in v)

-- the numbers there: those of a product's first parts, too
unfoldable pub one_numbers : Mode → OneOp → Option ValueTree → List ℤ
one_numbers mode (Fold op) v = folded_numbers mode op (scalars_in v)
one_numbers mode op v = own_number (one_value mode op v)

-- what is made of two values
unfoldable pub two_value : Mode → TwoOp → Option ValueTree → Option ValueTree → Option ValueTree
two_value mode (Binary op) v w = binary_value mode op (number_in v) (number_in w)
two_value mode (Compare op) v w = truth_in mode (map_both (compare_holds op) (number_in v) (number_in w))
two_value mode (Lex op) v w = truth_in mode (map_both (lex_holds op) (scalars_in v) (scalars_in w))
two_value mode InSet v w = truth_in mode (map_both has_number (scalars_in w) (number_in v))
two_value mode Table v w = truth_in mode (on_both (rows_in w) (scalars_in v) is_row_of)

-- whether numbers stand in a list as often as is asked for, by the list, the numbers and their counts
abbrev pub counts_value : Mode → CompareOp → Option ValueTree → Option ValueTree → Option ValueTree → Option ValueTree
counts_value mode op v values counts = truth_in mode (on_three (scalars_in v) (scalars_in values) (scalars_in counts) (counts_hold op))

-- the same by two lists in the order of the text
unfoldable pub count_value : Mode → CountOp → Option ValueTree → Option ValueTree → Option ValueTree → Option ValueTree
count_value mode CountOp.Gcc v a b = counts_value mode CompareOp.Equal v a b
count_value mode CountOp.AtLeast v a b = counts_value mode CompareOp.AtLeast v b a
count_value mode CountOp.AtMost v a b = counts_value mode CompareOp.AtMost v b a
