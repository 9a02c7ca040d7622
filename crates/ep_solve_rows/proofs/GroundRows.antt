-- Small grounds: what they reach, how far, and which of their nodes may lack a value, as the checker computes it.
use Rattle.std.proofs.Common.{◌≡◌, ℕ, zero, suc, pos, negsuc, true, false, List, [], ◌∷◌, None, Some, refl, subst, arith}
use Rattle.std.specs.Prelude.{map, slice_index_or}
use Rattle.std.specs.List.{All, Contains}
use Rattle.std.specs.List.Sorted.{IsStrictlyIncreasing}
use Rattle.std.proofs.lemmas.List.Elements.{All-contains, All-from_recursion, All-nil}
use Rattle.std.proofs.lemmas.List.Kept.{AllPairs-from_increasing}
use Rattle.std.proofs.lemmas.Option.{get_or_from_slice_get}
use Rattle.ep_base.specs.Intervals as intervals
use Rattle.ep_base.specs.Intervals.{Interval, IsWithinReach, from_to, only, scaled}
use Rattle.ep_base.specs.Numbers as numbers
use Rattle.ep_base.specs.Reads.{IsWithinNumbers}
use Rattle.ep_base.specs.declared.operators.CompareOp.{CompareOp}
use Rattle.ep_base.specs.declared.operators.Sense.{Sense}
use Rattle.ep_ground.specs.Bounds.{IsBounded, node_reach, reach_at, term_reach}
use Rattle.ep_ground.specs.Grounds.{AreReached, AsksForAdditions, GroundState, IsTermReached, LeadsTo, by_part, itself, additions, additions_in, named_terms}
use Rattle.ep_ground.specs.Nodes.{GroundNode, constant, undefined, cell, sum, product, quotient, remainder, power, least, whole, safe_pick, compare, negation, coefficients_of, is_partial, parts_of}
use Rattle.ep_ground.specs.declared.cells.Cell.{Cell}

-- a cell from -2 to 3
abbrev small : Cell
small = record { name = 120 ∷ []; indices = []; truth = false; values = negsuc 1 ∷ pos 0 ∷ pos 3 ∷ [] }

-- the cell, twice the cell less 5, the product of both, a quotient, a remainder, a power, a read of all, and a comparison
abbrev some_nodes : List GroundNode
some_nodes =
    cell 0 ∷ sum (negsuc 4) ((pos 2, 0) ∷ []) ∷ product 0 1 ∷ quotient 1 0 ∷ remainder 0 1 ∷ power 0 2 ∷ safe_pick (0 ∷ 1 ∷ []) [] [] ∷ whole 1 (0 ∷ []) ∷ undefined ∷ compare CompareOp.Less 0 1 ∷ least (0 ∷ 1 ∷ []) ∷ cell 1 ∷ []

reaches : map (term_reach some_nodes (small ∷ [])) (0 ∷ 1 ∷ 2 ∷ 3 ∷ 4 ∷ 5 ∷ 6 ∷ 7 ∷ 8 ∷ 9 ∷ 10 ∷ 11 ∷ [])
    ≡ from_to (negsuc 1) (pos 3) ∷ from_to (negsuc 8) (pos 1) ∷ from_to (negsuc 26) (pos 18) ∷ from_to (negsuc 8) (pos 9) ∷ from_to (negsuc 7) (pos 8) ∷ from_to (pos 0) (pos 9)
    ∷ from_to (negsuc 8) (pos 3) ∷ from_to (negsuc 8) (pos 1) ∷ only (pos 0) ∷ from_to (pos 0) (pos 1) ∷ from_to (negsuc 8) (pos 1) ∷ only (pos 0) ∷ []
unfolding term_reach reach_at node_reach scaled intervals.spanned intervals.least_or_zero intervals.greatest_or_zero intervals.product_interval intervals.sum_interval intervals.quotient_interval intervals.remainder_interval intervals.nth_power_interval intervals.has_zero intervals.hull intervals.least_interval intervals.farthest_end numbers.least_of numbers.greatest_of numbers.sum_of numbers.nth_power numbers.absolute_of
reaches = refl

-- which of these may lack a value
partial_ones : map is_partial some_nodes ≡ false ∷ false ∷ false ∷ true ∷ true ∷ false ∷ false ∷ true ∷ true ∷ false ∷ false ∷ false ∷ []
unfolding is_partial
partial_ones = refl

-- ---- what a ground reaches

-- what a term leads to stands in a list in which it stands itself, and with each term the parts of its node
leads_within : (nodes : List GroundNode) (terms : List ℕ) → All (λ t. All (Contains terms) (parts_of (slice_index_or nodes t undefined))) terms
    → (t u : ℕ) → Contains terms t → LeadsTo nodes t u → Contains terms u
leads_within nodes terms closed t _ found (itself _) = found
leads_within nodes terms closed t u found (by_part _ part _ node is inside rest) =
    let parts =
    subst (λ n. All (Contains terms) (parts_of n)) (get_or_from_slice_get nodes t node undefined is)
    (All-contains (λ s. All (Contains terms) (parts_of (slice_index_or nodes s undefined))) terms t closed found) in
    leads_within nodes terms closed part u (All-contains (Contains terms) (parts_of node) part parts inside) rest

-- so a ground reaches terms in such a list alone
reached_within : (g : GroundState) (terms : List ℕ) → All (Contains terms) (named_terms g)
    → All (λ t. All (Contains terms) (parts_of (slice_index_or g.nodes t undefined))) terms → (u : ℕ) → IsTermReached g u → Contains terms u
reached_within g terms named closed u r =
    leads_within g.nodes terms closed r.from u (All-contains (Contains terms) (named_terms g) r.from named r.named) r.leads

-- the cell, 3, the cell < 3, the cell + the cell + 3, a number that is too far, and not (the cell < 3)
abbrev more_nodes : List GroundNode
more_nodes =
    cell 0 ∷ constant (pos 3) ∷ compare CompareOp.Less 0 1 ∷ sum (pos 0) ((pos 1, 0) ∷ (pos 1, 0) ∷ (pos 1, 1) ∷ []) ∷ constant (pos 1099511627777) ∷ negation 2 ∷ []

-- not (the cell < 3) is to be true
abbrev denied : GroundState
denied = record { nodes = more_nodes; cells = small ∷ []; clauses = 5 ∷ []; objective = None }

-- from the clause through its part to the part of that
leads_to_the_cell : LeadsTo more_nodes 5 0
unfolding parts_of
leads_to_the_cell =
    by_part 5 2 0 (negation 2) refl (0, omega arith, refl) (by_part 2 0 0 (compare CompareOp.Less 0 1) refl (0, omega arith, refl) (itself 0))

leads_to_three : LeadsTo more_nodes 5 1
unfolding parts_of
leads_to_three =
    by_part 5 2 1 (negation 2) refl (0, omega arith, refl) (by_part 2 1 1 (compare CompareOp.Less 0 1) refl (1, omega arith, refl) (itself 1))

leads_to_less : LeadsTo more_nodes 5 2
unfolding parts_of
leads_to_less = by_part 5 2 2 (negation 2) refl (0, omega arith, refl) (itself 2)

-- the terms that the clause leads to
abbrev of_denied : List ℕ
of_denied = 0 ∷ 1 ∷ 2 ∷ 5 ∷ []

denied_increases : IsStrictlyIncreasing of_denied
denied_increases zero low = omega arith
denied_increases (suc zero) low = omega arith
denied_increases (suc (suc zero)) low = omega arith
denied_increases (suc (suc (suc k))) low = absurd (omega (arith, low))

within_denied : (u : ℕ) → IsTermReached denied u → Contains of_denied u
unfolding parts_of named_terms
within_denied =
    reached_within denied of_denied (All-from_recursion (Contains of_denied) (5 ∷ []) ((3, omega arith, refl), tt))
    (All-from_recursion (λ t. All (Contains of_denied) (parts_of (slice_index_or more_nodes t undefined))) of_denied
    (All-nil _, (All-nil _, (All-from_recursion (Contains of_denied) (0 ∷ 1 ∷ []) ((0, omega arith, refl), ((1, omega arith, refl), tt)), (All-from_recursion (Contains of_denied) (2 ∷ []) ((2, omega arith, refl), tt), tt)))))

from_denied : (u : ℕ) → LeadsTo more_nodes 5 u → IsTermReached denied u
unfolding named_terms
from_denied u leads = record { from = 5; named = (0, omega arith, refl); leads = leads }

reached_by_denied : AreReached denied of_denied
reached_by_denied = record {
  ascending = AllPairs-from_increasing of_denied denied_increases;
  reached = λ u. (
    λ found. All-contains (IsTermReached denied) of_denied u (All-from_recursion (IsTermReached denied) of_denied (from_denied 0 leads_to_the_cell, (from_denied 1 leads_to_three, (from_denied 2 leads_to_less, (from_denied 5 (itself 5), tt))))) found,
    within_denied u,
  );
}

-- none of these is the sum, or the far number
not_these : All (λ t. (t ≡ 3 → ⊥) × (t ≡ 4 → ⊥)) of_denied
not_these =
    All-from_recursion (λ t. (t ≡ 3 → ⊥) × (t ≡ 4 → ⊥)) of_denied
    ((λ e. omega (arith, e), λ e. omega (arith, e)), ((λ e. omega (arith, e), λ e. omega (arith, e)), ((λ e. omega (arith, e), λ e. omega (arith, e)), ((λ e. omega (arith, e), λ e. omega (arith, e)), tt))))

-- so the sum and the far number aren't reached
the_sum_is_unreached : IsTermReached denied 3 → ⊥
the_sum_is_unreached r = (All-contains (λ t. (t ≡ 3 → ⊥) × (t ≡ 4 → ⊥)) of_denied 3 not_these (within_denied 3 r)).0 refl

the_far_number_is_unreached : IsTermReached denied 4 → ⊥
the_far_number_is_unreached r = (All-contains (λ t. (t ≡ 3 → ⊥) × (t ≡ 4 → ⊥)) of_denied 4 not_these (within_denied 4 r)).1 refl

-- no addition is asked for, since the sum isn't reached
no_additions : AsksForAdditions denied 0
unfolding additions additions_in
no_additions = record { terms = of_denied; are_reached = reached_by_denied; number = refl }

-- a sum of three parts is to be small, and the cell less than 3
abbrev driven : GroundState
driven = record { nodes = more_nodes; cells = small ∷ []; clauses = 2 ∷ []; objective = Some (Sense.Minimising, 3) }

abbrev of_driven : List ℕ
of_driven = 0 ∷ 1 ∷ 2 ∷ 3 ∷ []

driven_increases : IsStrictlyIncreasing of_driven
driven_increases zero low = omega arith
driven_increases (suc zero) low = omega arith
driven_increases (suc (suc zero)) low = omega arith
driven_increases (suc (suc (suc k))) low = absurd (omega (arith, low))

within_driven : (u : ℕ) → IsTermReached driven u → Contains of_driven u
unfolding parts_of named_terms
within_driven =
    reached_within driven of_driven (All-from_recursion (Contains of_driven) (2 ∷ 3 ∷ []) ((2, omega arith, refl), ((3, omega arith, refl), tt)))
    (All-from_recursion (λ t. All (Contains of_driven) (parts_of (slice_index_or more_nodes t undefined))) of_driven
    (All-nil _, (All-nil _, (All-from_recursion (Contains of_driven) (0 ∷ 1 ∷ []) ((0, omega arith, refl), ((1, omega arith, refl), tt)), (All-from_recursion (Contains of_driven) (0 ∷ 0 ∷ 1 ∷ []) ((0, omega arith, refl), ((0, omega arith, refl), ((1, omega arith, refl), tt))), tt)))))

-- the clause and the objective are reached, and the parts of the clause
reached_by_driven : AreReached driven of_driven
unfolding parts_of named_terms
reached_by_driven = record {
  ascending = AllPairs-from_increasing of_driven driven_increases;
  reached = λ u. (λ found. All-contains (IsTermReached driven) of_driven u each found, within_driven u);
}
  where
    part : (p : ℕ) → Contains (parts_of (compare CompareOp.Less 0 1)) p → IsTermReached driven p
    part p found = record { from = 2; named = (0, omega arith, refl); leads = by_part 2 p p (compare CompareOp.Less 0 1) refl found (itself p) }

    each : All (IsTermReached driven) of_driven
    each =
        All-from_recursion (IsTermReached driven) of_driven (
          part 0 (0, omega arith, refl),
          (
            part 1 (1, omega arith, refl),
            (
              record { from = 2; named = (0, omega arith, refl); leads = itself 2 },
              (record { from = 3; named = (1, omega arith, refl); leads = itself 3 }, tt),
            ),
          ),
        )

-- two additions are asked for, since the sum is reached
two_additions : AsksForAdditions driven 2
unfolding additions additions_in
two_additions = record { terms = of_driven; are_reached = reached_by_driven; number = refl }

-- ---- what is within bounds

-- a reach and coefficients that are within bounds
abbrev IsNear : ℕ → Type 0
IsNear t =
    IsWithinReach (term_reach more_nodes (small ∷ []) t) × All IsWithinNumbers (coefficients_of (slice_index_or more_nodes t undefined))

-- a ground is bounded though a node that it doesn't reach is too far
is_bounded : IsBounded denied
unfolding coefficients_of term_reach reach_at node_reach intervals.spanned intervals.least_or_zero intervals.greatest_or_zero numbers.least_of numbers.greatest_of
is_bounded = record {
  cells = All-from_recursion (λ one. All IsWithinNumbers one.values) (small ∷ []) (All-from_recursion IsWithinNumbers small.values ((omega arith, omega arith), ((omega arith, omega arith), ((omega arith, omega arith), tt))), tt);
  reaches = λ t r. (near t r).0;
  coefficients = λ t r. (near t r).1;
}
  where
    near : (t : ℕ) → IsTermReached denied t → IsNear t
    near t r =
        All-contains IsNear of_denied t
        (All-from_recursion IsNear of_denied (
          (record { low = (omega arith, omega arith); high = (omega arith, omega arith) }, All-nil _),
          (
            (record { low = (omega arith, omega arith); high = (omega arith, omega arith) }, All-nil _),
            (
              (record { low = (omega arith, omega arith); high = (omega arith, omega arith) }, All-nil _),
              ((record { low = (omega arith, omega arith); high = (omega arith, omega arith) }, All-nil _), tt),
            ),
          ),
        ))
        (within_denied t r)

-- where the node is a clause, it isn't
is_too_far : IsBounded (record denied { clauses = 4 ∷ [] }) → ⊥
unfolding term_reach reach_at node_reach named_terms
is_too_far b = omega (arith, (b.reaches 4 (record { from = 4; named = (0, omega arith, refl); leads = itself 4 })).high.1)
