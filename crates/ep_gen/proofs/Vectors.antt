-- Generated squares and texts, computed by the checker.
use Rattle.std.specs.Prelude.{◌≡◌, ℕ, pos, [], ◌∷◌, ◌++◌, map, codes, drop, length, refl}
use Rattle.std.specs.Fmt.{digits}
use Rattle.std.specs.List.{range_with_len}
use Rattle.ep_base.specs.Runs.{counting}
use Rattle.ep_print.specs.Answers.{answer_text, language_line, letting_text, solution}
use Rattle.ep_print.specs.Joining.{with_between}
use Rattle.ep_print.specs.Values.{index_domain_text, run_text, runs_of, scalar_text, scalar_value_text, stretch_from, value_text}
use Rattle.ep_tree.specs.Types.{scalar_of}
use Rattle.ep_tree.specs.Values.{as_parts, list_value}
use Rattle.ep_gen.specs.Hints.{hint_of, next_number, nth_number, order_of, row_of, square_rows, square_value}
use Rattle.ep_gen.specs.Texts.{generated_params, params_of}

-- a vector that says `unfolding the_inputs` computes with all of these
unfoldable the_inputs : ℕ
unfolding digits counting answer_text letting_text with_between index_domain_text run_text runs_of scalar_text scalar_value_text stretch_from value_text scalar_of as_parts list_value hint_of next_number nth_number order_of row_of square_rows square_value
the_inputs = 0

-- the first numbers behind 0
stream-1 : map (nth_number 0) (range_with_len 1 10)
    ≡ 12345 ∷ 1406932606 ∷ 654583775 ∷ 1449466924 ∷ 229283573 ∷ 1109335178 ∷ 1051550459 ∷ 1293799192 ∷ 794471793 ∷ 551188310 ∷ []
unfolding the_inputs
stream-1 = refl

orders-1 : map order_of (range_with_len 0 6) ≡ 16 ∷ 17 ∷ 18 ∷ 19 ∷ 20 ∷ 16 ∷ []
unfolding the_inputs
orders-1 = refl

-- the first and the last row of the number 0
row-1 : row_of 0 16 0 1 ≡ pos 3 ∷ pos 4 ∷ pos 0 ∷ pos 0 ∷ pos 7 ∷ pos 0 ∷ pos 0 ∷ pos 0 ∷ pos 0 ∷ pos 0 ∷ pos 13 ∷ pos 0 ∷ pos 0 ∷ pos 0 ∷ pos 1 ∷ pos 2 ∷ []
unfolding the_inputs
row-1 = refl

row-2 : row_of 0 16 240 16 ≡ pos 0 ∷ pos 0 ∷ pos 0 ∷ pos 0 ∷ pos 6 ∷ pos 0 ∷ pos 0 ∷ pos 0 ∷ pos 10 ∷ pos 11 ∷ pos 12 ∷ pos 13 ∷ pos 0 ∷ pos 0 ∷ pos 0 ∷ pos 0 ∷ []
unfolding the_inputs
row-2 = refl

-- the first row of the greatest number
row-3 : row_of 1000000000 16 0 1 ≡ pos 3 ∷ pos 0 ∷ pos 0 ∷ pos 0 ∷ pos 0 ∷ pos 0 ∷ pos 0 ∷ pos 0 ∷ pos 11 ∷ pos 12 ∷ pos 13 ∷ pos 0 ∷ pos 0 ∷ pos 0 ∷ pos 0 ∷ pos 2 ∷ []
unfolding the_inputs
row-3 = refl

-- the whole text for the number 0
params-1 : generated_params 0
    ≡ codes "language ESSENCE' 1.0\nletting n be 16\nletting hint be [[3, 4, 0, 0, 7, 0, 0, 0, 0, 0, 13, 0, 0, 0, 1, 2; int(1..16)], [0, 0, 0, 7, 8, 0, 0, 0, 0, 0, 0, 0, 0, 1, 0, 0; int(1..16)], [5, 0, 0, 8, 0, 10, 0, 0, 0, 0, 15, 16, 0, 2, 0, 0; int(1..16)], [0, 0, 0, 0, 10, 11, 0, 0, 0, 0, 0, 0, 0, 3, 0, 5; int(1..16)], [0, 0, 9, 0, 0, 0, 0, 0, 0, 16, 1, 0, 0, 0, 0, 6; int(1..16)], [8, 0, 0, 0, 0, 0, 0, 0, 0, 0, 0, 0, 4, 5, 6, 0; int(1..16)], [0, 0, 0, 12, 0, 0, 0, 0, 1, 0, 0, 4, 5, 0, 7, 8; int(1..16)], [0, 11, 12, 13, 0, 0, 16, 0, 0, 0, 0, 0, 0, 7, 0, 0; int(1..16)], [0, 0, 0, 0, 0, 0, 0, 0, 3, 0, 0, 0, 0, 0, 0, 0; int(1..16)], [12, 0, 0, 0, 0, 1, 2, 0, 4, 5, 6, 7, 8, 9, 0, 0; int(1..16)], [13, 0, 0, 0, 1, 0, 3, 4, 0, 0, 0, 0, 0, 0, 0, 0; int(1..16)], [0, 15, 16, 1, 2, 3, 0, 0, 6, 0, 0, 0, 0, 0, 0, 0; int(1..16)], [0, 0, 0, 0, 3, 0, 0, 0, 7, 8, 0, 10, 0, 0, 13, 0; int(1..16)], [16, 1, 0, 3, 0, 5, 0, 7, 8, 0, 0, 0, 12, 13, 0, 15; int(1..16)], [0, 2, 3, 0, 0, 0, 7, 0, 0, 0, 0, 12, 0, 14, 0, 0; int(1..16)], [0, 0, 0, 0, 6, 0, 0, 0, 10, 11, 12, 13, 0, 0, 0, 0; int(1..16)]; int(1..16)]\n"
unfolding the_inputs
params-1 = refl

-- Parameters are written as an answer is, but for the line that says what was found.
as_an_answer : (number : ℕ) → answer_text (solution (params_of number))
    ≡ language_line ++ (codes "$ solution\n" ++ drop (length language_line) (generated_params number))
unfolding answer_text
as_an_answer number = refl
