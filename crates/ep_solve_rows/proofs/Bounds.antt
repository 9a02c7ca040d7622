-- Grounds that lie within the numbers that the stages compute with, and one that doesn't.
use Rattle.std.proofs.Common.{ℕ, ℤ, pos, negsuc, suc, zero, arith, false, [], ◌∷◌, None}
use Rattle.std.specs.List.{All}
use Rattle.std.proofs.lemmas.List.Elements.{All-from_recursion, All-head}
use Rattle.cnf_core.proofs.Members.{Contains-here}
use Rattle.ep_base.specs.Intervals as intervals
use Rattle.ep_base.specs.Numbers as numbers
use Rattle.ep_base.specs.Reads.{IsWithinNumbers}
use Rattle.ep_base.specs.Intervals.{IsWithinReach, scaled}
use Rattle.ep_ground.specs.Bounds.{IsBounded, node_reach, reach_at, term_reach}
use Rattle.ep_ground.specs.Grounds.{GroundState, itself, named_terms}
use Rattle.ep_ground.specs.Nodes.{cell, sum, coefficients_of, undefined}
use Rattle.ep_ground.specs.declared.cells.Cell.{Cell}
use Rattle.std.specs.Prelude.{slice_index_or}

abbrev small : Cell
small = record { name = 120 ∷ []; indices = []; truth = false; values = negsuc 1 ∷ pos 0 ∷ pos 3 ∷ [] }

-- a cell, and its number times a coefficient, which is a clause
abbrev times : ℤ → GroundState
times a = record { nodes = cell 0 ∷ sum (pos 0) ((a, 0) ∷ []) ∷ []; cells = small ∷ []; clauses = 1 ∷ []; objective = None }

reach : (t : ℕ) → IsWithinReach (term_reach (times (pos 2)).nodes (small ∷ []) t)
unfolding term_reach reach_at node_reach scaled intervals.spanned intervals.least_or_zero intervals.greatest_or_zero intervals.product_interval intervals.sum_interval numbers.least_of numbers.greatest_of numbers.sum_of
reach zero = record { low = (omega arith, omega arith); high = (omega arith, omega arith) }
reach (suc zero) = record { low = (omega arith, omega arith); high = (omega arith, omega arith) }
reach (suc (suc t)) = record { low = (omega arith, omega arith); high = (omega arith, omega arith) }

coefficient : (t : ℕ) → All IsWithinNumbers (coefficients_of (slice_index_or (times (pos 2)).nodes t undefined))
unfolding coefficients_of
coefficient zero = All-from_recursion IsWithinNumbers [] tt
coefficient (suc zero) = All-from_recursion IsWithinNumbers (pos 2 ∷ []) ((omega arith, omega arith), tt)
coefficient (suc (suc t)) = All-from_recursion IsWithinNumbers [] tt

-- the cell, from -2 to 3, and twice its number, from -4 to 6
is_bounded : IsBounded (times (pos 2))
is_bounded = record {
  cells = All-from_recursion (λ (one : Cell). All IsWithinNumbers one.values) (small ∷ []) (All-from_recursion IsWithinNumbers small.values ((omega arith, omega arith), ((omega arith, omega arith), ((omega arith, omega arith), tt))), tt);
  reaches = λ t _. reach t;
  coefficients = λ t _. coefficient t;
}

-- a coefficient of more than the greatest number is out of bounds, though the ground's cells are small
is_too_great : IsBounded (times (pos 1099511627777)) → ⊥
unfolding coefficients_of named_terms
is_too_great b =
    let within : All IsWithinNumbers (pos 1099511627777 ∷ []) = b.coefficients 1 (record { from = 1; named = Contains-here 1 []; leads = itself 1 }) in
    omega (arith, (All-head IsWithinNumbers (pos 1099511627777) [] within).1)
