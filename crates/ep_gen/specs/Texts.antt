-- The two texts that are generated from a number: a model of Latin squares with hints, and its parameters.
use Rattle.std.specs.Prelude.{ℕ, List, [], ◌∷◌, ◌++◌, codes, pos}
use Rattle.ep_print.specs.Answers.{language_line, letting_texts}
use Rattle.ep_tree.specs.Solutions.{Assigned}
use Rattle.ep_tree.specs.Values.{single}
use Rattle.ep_tree.specs.declared.values.Scalar.{Scalar}
use Rattle.ep_tree.specs.declared.values.ValueType.{ValueType}
use Rattle.ep_gen.specs.Hints.{hints_of, order_of, square_value}

-- the model, which is the same for each number
unfoldable pub generated_model : List ℕ
generated_model =
    language_line
    ++ (codes "given n : int(1..100)\n"
    ++ (codes "given hint : matrix indexed by [int(1..n), int(1..n)] of int(0..n)\n"
    ++ (codes "find q : matrix indexed by [int(1..n), int(1..n)] of int(1..n)\n"
    ++ (codes "such that\n"
    ++ (codes "forAll i : int(1..n) . allDiff(q[i,..]),\n"
    ++ (codes "forAll j : int(1..n) . allDiff(q[..,j]),\n"
    ++ codes "forAll i,j : int(1..n) . (hint[i,j] != 0) -> (q[i,j] = hint[i,j])\n"))))))

-- the parameters of a number: the order of its square, and the hints
abbrev pub params_of : ℕ → Assigned
params_of number =
    record { name = codes "n"; ty = ValueType.Int; value = single (pos (order_of number)) }
    ∷ record {
      name = codes "hint";
      ty = ValueType.Matrix 2 Scalar.Int;
      value = square_value (order_of number) (hints_of number);
    } ∷ []

-- their text: that of an answer without the line that says what was found
abbrev pub generated_params : ℕ → List ℕ
generated_params number = language_line ++ letting_texts (params_of number)
