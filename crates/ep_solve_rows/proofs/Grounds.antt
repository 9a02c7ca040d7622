-- A small ground: which values of its cells it keeps, that it is well formed, and how many additions it asks for.
use Rattle.std.proofs.Common.{ap, ◌≡◌, ℤ, pos, negsuc, arith, false, [], ◌∷◌, Option, Some, None, refl, ◌<◌}
use Rattle.std.specs.Prelude.{map}
use Rattle.std.proofs.lemmas.Bool.{false≢true}
use Rattle.std.proofs.lemmas.List.Elements.{All-cons, All-from_recursion, All-nil}
use Rattle.cnf_core.proofs.Members.{Contains-here}
use Rattle.ep_base.specs.Numbers as numbers
use Rattle.ep_base.specs.Options.{on_both}
use Rattle.ep_base.specs.declared.operators.CompareOp.{CompareOp}
use Rattle.ep_base.specs.declared.operators.Sense.{Sense}
use Rattle.ep_ground.specs.Grounds.{GroundState, HasObjective, IsGroundSolution, IsWellFormed, StandsOver, additions, additions_in, ground_objective, named_terms}
use Rattle.ep_ground.specs.Nodes.{cell, constant, sum, quotient, least, greatest, compare}
use Rattle.ep_ground.specs.Terms.{node_value, term_value, truth, value_at, values_from, term_values_of}
use Rattle.ep_ground.specs.declared.cells.Cell.{Cell}

-- a cell from -2 to 3
abbrev small : Cell
small = record { name = 120 ∷ []; indices = []; truth = false; values = negsuc 1 ∷ pos 0 ∷ pos 3 ∷ [] }

-- the cell x; 3; x < 3; x + x + 3; 3 / x: the clause x < 3, and 3 / x is to be small
abbrev divided : GroundState
divided = record {
  nodes = cell 0 ∷ constant (pos 3) ∷ compare CompareOp.Less 0 1 ∷ sum (pos 0) ((pos 1, 0) ∷ (pos 1, 0) ∷ (pos 1, 1) ∷ []) ∷ quotient 1 0 ∷ [];
  cells = small ∷ [];
  clauses = 2 ∷ [];
  objective = Some (Sense.Minimising, 4);
}

-- 3 over -2, 0, 3 and a number that the cell doesn't have; without a cell there is no number
objectives : map (ground_objective divided) ((negsuc 1 ∷ []) ∷ (pos 0 ∷ []) ∷ (pos 3 ∷ []) ∷ (pos 1 ∷ []) ∷ [] ∷ [])
    ≡ Some (negsuc 1) ∷ None ∷ Some (pos 1) ∷ Some (pos 3) ∷ None ∷ []
unfolding ground_objective term_value values_from value_at node_value on_both term_values_of truth numbers.quotient numbers.floor_over
objectives = refl

-- -2 is one of the cell's numbers, is less than 3, and 3 / -2 has a number
is_kept : IsGroundSolution divided (negsuc 1 ∷ [])
unfolding HasObjective term_value values_from value_at node_value on_both term_values_of truth numbers.quotient numbers.floor_over numbers.of_bool numbers.compare_holds
is_kept = record {
  cells = (Contains-here (negsuc 1) (pos 0 ∷ pos 3 ∷ []), tt);
  clauses = All-cons (λ t. term_value divided.nodes (negsuc 1 ∷ []) t ≡ Some (pos 1)) 2 [] refl (All-nil _);
  objective = refl;
}

-- 0 isn't kept, since 3 / 0 has no number
is_undefined : IsGroundSolution divided (pos 0 ∷ []) → ⊥
unfolding HasObjective term_value values_from value_at node_value on_both term_values_of truth numbers.quotient numbers.floor_over
is_undefined s = false≢true s.objective

-- additions: three parts ask for two, and what isn't a sum for none
added : additions divided (0 ∷ 2 ∷ 3 ∷ 4 ∷ []) ≡ 2
unfolding additions additions_in
added = refl

is_well_formed : IsWellFormed divided
unfolding named_terms StandsOver
is_well_formed = record {
  terms = All-cons (λ t. t < 5) 2 (4 ∷ []) (omega arith) (All-cons (λ t. t < 5) 4 [] (omega arith) (All-nil _));
  nodes = All-from_recursion (StandsOver 1) divided.nodes (omega arith, (tt, (tt, (tt, (tt, tt)))));
}

-- a false clause, a number that the cell doesn't have, and too few numbers keep nothing
is_false : IsGroundSolution divided (pos 3 ∷ []) → ⊥
unfolding HasObjective term_value values_from value_at node_value on_both term_values_of truth numbers.of_bool numbers.compare_holds
is_false s = one≢none (ap (λ o. number_or o) (s.clauses 0 0 (omega arith)))
  where
    number_or : Option ℤ → ℤ
    number_or None = pos 0
    number_or (Some n) = n

    one≢none : pos 0 ≡ pos 1 → ⊥
    one≢none e = absurd cc

too_few : IsGroundSolution divided [] → ⊥
too_few s = s.cells

-- the additions of a sum of no part, and of one part
fewer_additions : additions (record divided { nodes = sum (pos 1) [] ∷ sum (pos 1) ((pos 2, 0) ∷ []) ∷ [] }) (0 ∷ 1 ∷ 1 ∷ []) ≡ 0
unfolding additions additions_in
fewer_additions = refl

-- a cell that isn't there, a least and a greatest part of none, and a clause that isn't there
no_such_cell : IsWellFormed (record divided { cells = [] }) → ⊥
unfolding StandsOver
no_such_cell w = omega (arith, w.nodes 0 (cell 0) (omega arith))

least_of_none : IsWellFormed (record divided { nodes = least [] ∷ []; clauses = []; objective = None }) → ⊥
unfolding StandsOver
least_of_none w = omega (arith, w.nodes 0 (cell 0) (omega arith))

greatest_of_none : IsWellFormed (record divided { nodes = greatest [] ∷ []; clauses = []; objective = None }) → ⊥
unfolding StandsOver
greatest_of_none w = omega (arith, w.nodes 0 (cell 0) (omega arith))

no_such_clause : IsWellFormed (record divided { clauses = 5 ∷ []; objective = None }) → ⊥
unfolding named_terms
no_such_clause w = omega (arith, w.terms 0 0 (omega arith))
