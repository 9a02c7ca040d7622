-- Which nodes numbers alone among their parts decide something about, as the checker computes it.
use Rattle.std.proofs.Common.{◌≡◌, ℕ, pos, negsuc, List, [], ◌∷◌, refl, arith}
use Rattle.std.proofs.lemmas.Bool.{false≢true}
use Rattle.std.proofs.lemmas.List.Elements.{All-from_recursion, All-head}
use Rattle.ep_base.specs.declared.operators.CompareOp.{CompareOp}
use Rattle.ep_ground.specs.Nodes.{GroundNode, constant, cell, compare, greatest, least, pick, safe_pick}
use Rattle.ep_simplify.specs.Decided.{IsNumber, IsOpen, constant_of, lone_number}

-- two cells, two numbers, and a comparison of the cells
abbrev nodes : List GroundNode
nodes = cell 0 ∷ cell 1 ∷ constant (pos 3) ∷ constant (negsuc 0) ∷ compare CompareOp.Less 0 1 ∷ []

three_is_a_number : IsNumber nodes 2
unfolding lone_number constant_of
three_is_a_number = refl

cell_is_no_number : IsNumber nodes 0 → ⊥
unfolding lone_number constant_of
cell_is_no_number is = false≢true is

what_isn_t_there_is_no_number : IsNumber nodes 5 → ⊥
unfolding lone_number constant_of
what_isn_t_there_is_no_number is = false≢true is

zero_is_not_one : ◌≡◌ {A = ℕ} 0 1 → ⊥
zero_is_not_one e = omega (arith, e)

two_is_not_one : ◌≡◌ {A = ℕ} 2 1 → ⊥
two_is_not_one e = omega (arith, e)

-- the least of one part is that part, of whatever kind it is; of two parts, or of none, it is left
least_of_a_cell : IsOpen nodes (least (0 ∷ [])) → ⊥
unfolding IsOpen
least_of_a_cell open_node = open_node refl

least_of_a_number : IsOpen nodes (least (2 ∷ [])) → ⊥
unfolding IsOpen
least_of_a_number open_node = open_node refl

least_of_two : IsOpen nodes (least (0 ∷ 2 ∷ []))
unfolding IsOpen
least_of_two = two_is_not_one

least_of_two_numbers : IsOpen nodes (least (2 ∷ 3 ∷ []))
unfolding IsOpen
least_of_two_numbers = two_is_not_one

least_of_none : IsOpen nodes (least [])
unfolding IsOpen
least_of_none = zero_is_not_one

-- the greatest likewise
greatest_of_a_cell : IsOpen nodes (greatest (0 ∷ [])) → ⊥
unfolding IsOpen
greatest_of_a_cell open_node = open_node refl

greatest_of_two : IsOpen nodes (greatest (0 ∷ 1 ∷ []))
unfolding IsOpen
greatest_of_two = two_is_not_one

greatest_of_none : IsOpen nodes (greatest [])
unfolding IsOpen
greatest_of_none = zero_is_not_one

-- a pick whose indices are all numbers is the part that they name; one cell among them leaves it
pick_at_three : IsOpen nodes (safe_pick (0 ∷ 1 ∷ []) ((pos 3 ∷ []) ∷ (pos 4 ∷ []) ∷ []) (2 ∷ [])) → ⊥
unfolding IsOpen lone_number constant_of
pick_at_three open_node = open_node (All-from_recursion (IsNumber nodes) (2 ∷ []) (refl, tt))

pick_at_two_numbers : IsOpen nodes (safe_pick (0 ∷ 1 ∷ []) ((pos 3 ∷ negsuc 0 ∷ []) ∷ []) (2 ∷ 3 ∷ [])) → ⊥
unfolding IsOpen lone_number constant_of
pick_at_two_numbers open_node = open_node (All-from_recursion (IsNumber nodes) (2 ∷ 3 ∷ []) (refl, (refl, tt)))

pick_at_nothing : IsOpen nodes (safe_pick (0 ∷ []) ([] ∷ []) []) → ⊥
unfolding IsOpen
pick_at_nothing open_node = open_node (All-from_recursion (IsNumber nodes) [] tt)

pick_at_a_cell : IsOpen nodes (safe_pick (2 ∷ 3 ∷ []) ((pos 3 ∷ []) ∷ []) (0 ∷ []))
unfolding IsOpen
pick_at_a_cell all_numbers = cell_is_no_number (All-head (IsNumber nodes) 0 [] all_numbers)

pick_at_a_cell_and_a_number : IsOpen nodes (safe_pick (2 ∷ 3 ∷ []) ((pos 3 ∷ pos 3 ∷ []) ∷ []) (0 ∷ 2 ∷ []))
unfolding IsOpen
pick_at_a_cell_and_a_number all_numbers = cell_is_no_number (All-head (IsNumber nodes) 0 (2 ∷ []) all_numbers)

-- a pick that may lack a value is left, also at a number
partial_pick : IsOpen nodes (pick (0 ∷ 1 ∷ []) ((pos 3 ∷ []) ∷ []) (2 ∷ []))
unfolding IsOpen
partial_pick = tt
