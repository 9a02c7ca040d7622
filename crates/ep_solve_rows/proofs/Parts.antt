-- The parts of nodes of each kind, and which of them may lack a value.
use Rattle.std.proofs.Common.{◌≡◌, ℕ, pos, negsuc, true, false, List, [], ◌∷◌, refl}
use Rattle.std.specs.Prelude.{map}
use Rattle.ep_base.specs.declared.operators.CompareOp.{CompareOp}
use Rattle.ep_base.specs.declared.operators.LexOp.{LexOp}
use Rattle.ep_ground.specs.Nodes.{GroundNode, constant, undefined, cell, sum, product, quotient, remainder, power, absolute, least, greatest, pick, whole, safe_quotient, safe_remainder, safe_pick, compare, lex, member, negation, all_of, any_of, same_truth, all_different, counts, at_least, at_most, table, coefficients_of, is_partial, parts_of}

-- one node of each kind, in the order in which they are declared: numbers of cells, exponents, keys and counted numbers are no parts
abbrev each_kind : List GroundNode
each_kind =
    constant (pos 9) ∷ undefined ∷ cell 9 ∷ sum (pos 9) ((pos 8, 1) ∷ (negsuc 7, 2) ∷ []) ∷ product 1 2 ∷ quotient 1 2 ∷ remainder 1 2 ∷ power 1 9 ∷ absolute 1 ∷ least (1 ∷ 2 ∷ []) ∷ greatest (1 ∷ 2 ∷ [])
    ∷ pick (1 ∷ 2 ∷ []) ((pos 9 ∷ []) ∷ []) (3 ∷ 4 ∷ []) ∷ whole 1 (2 ∷ 3 ∷ []) ∷ safe_quotient 1 2 ∷ safe_remainder 1 2 ∷ safe_pick (1 ∷ 2 ∷ []) ((pos 9 ∷ []) ∷ []) (3 ∷ 4 ∷ []) ∷ compare CompareOp.Less 1 2
    ∷ lex LexOp.Less (1 ∷ 2 ∷ []) (3 ∷ []) ∷ member 1 (pos 9 ∷ []) ∷ negation 1 ∷ all_of (1 ∷ 2 ∷ []) ∷ any_of (1 ∷ 2 ∷ []) ∷ same_truth 1 2 ∷ all_different (1 ∷ 2 ∷ []) ∷ counts (1 ∷ 2 ∷ []) (pos 9 ∷ []) (3 ∷ []) ∷ at_least (1 ∷ 2 ∷ []) (pos 9 ∷ []) (pos 9 ∷ [])
    ∷ at_most (1 ∷ 2 ∷ []) (pos 9 ∷ []) (pos 9 ∷ []) ∷ table (1 ∷ 2 ∷ []) ((pos 9 ∷ pos 9 ∷ []) ∷ []) ∷ []

abbrev none : List ℕ
none = []

abbrev one : List ℕ
one = 1 ∷ []

abbrev two : List ℕ
two = 1 ∷ 2 ∷ []

abbrev three : List ℕ
three = 1 ∷ 2 ∷ 3 ∷ []

abbrev four : List ℕ
four = 1 ∷ 2 ∷ 3 ∷ 4 ∷ []

parts : map parts_of each_kind
    ≡ none ∷ none ∷ none ∷ two ∷ two ∷ two ∷ two ∷ one ∷ one ∷ two ∷ two ∷ four ∷ three ∷ two ∷ two ∷ four ∷ two ∷ three ∷ one ∷ one ∷ two ∷ two ∷ two ∷ two ∷ three ∷ two ∷ two ∷ two ∷ []
unfolding parts_of
parts = refl

-- the second kind, quotients, remainders, picks and wholes
partial_kinds : map is_partial each_kind
    ≡ false ∷ true ∷ false ∷ false ∷ false ∷ true ∷ true ∷ false ∷ false ∷ false ∷ false ∷ true ∷ true ∷ false ∷ false ∷ false ∷ false ∷ false ∷ false ∷ false ∷ false ∷ false ∷ false ∷ false ∷ false ∷ false ∷ false ∷ false ∷ []
unfolding is_partial
partial_kinds = refl

coefficients : map coefficients_of (sum (pos 9) ((pos 8, 1) ∷ (negsuc 7, 2) ∷ []) ∷ sum (pos 9) [] ∷ product 1 2 ∷ []) ≡ (pos 8 ∷ negsuc 7 ∷ []) ∷ [] ∷ [] ∷ []
unfolding coefficients_of
coefficients = refl
