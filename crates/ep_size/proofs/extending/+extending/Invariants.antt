use Rattle.ep_size.proofs.Words.{◌+◌, ◌*◌, drop, length, Place, size-Expr, depth_of, end_depth, generators_depth, listing_depth, walk_rank, ranging_depth, nodes_at, instance_nodes, env_in, mode_in, IsWalk, numbers_left, grid_of, known_at, instance_at, map, most}
use Rattle.ep_size.proofs.GeneratedSteps.{ListedSoFar}
use Rattle.ep_size.proofs.IndexParts.{PartsSoFar}
use Rattle.ep_size.proofs.QuantifiedSteps.{Instancing}
use Rattle.ep_size.proofs.ReadForms.{IndicesSoFar}
use Rattle.ep_size.proofs.TermSteps.{TermsSoFar}
use Rattle.ep_size.proofs.extending.+extending.Given as goal

-- ---- what gets smaller

abbrev pub decreases-extent_of : goal.decreases-extent_of
decreases-extent_of l = walk_rank (goal.size-extent_of l) 0 1

abbrev pub decreases-decided : goal.decreases-decided
decreases-decided l = walk_rank (goal.size-decided l) 0 0

abbrev pub decreases-index_extent : goal.decreases-index_extent
decreases-index_extent l = walk_rank (end_depth l.index.now) 0 2

abbrev pub decreases-index_extents : goal.decreases-index_extents
decreases-index_extents l = walk_rank (most end_depth l.indices.now) 0 3

abbrev pub decreases-part_extents : goal.decreases-part_extents
decreases-part_extents l = walk_rank (goal.size-part_extents l) 0 2

abbrev pub decreases-sum_of_terms : goal.decreases-sum_of_terms
decreases-sum_of_terms l = walk_rank (most (λ t. size-Expr t.1) l.terms.now) 0 2

abbrev pub decreases-quantified : goal.decreases-quantified
decreases-quantified l = walk_rank (depth_of l.quantifier) (length l.names.now) 2

abbrev pub decreases-over_domain : goal.decreases-over_domain
decreases-over_domain l = walk_rank (depth_of l.quantifier) (length l.rest.now) 4

abbrev pub decreases-instances : goal.decreases-instances
decreases-instances l = walk_rank (depth_of l.quantifier) (length l.rest.now) 3

abbrev pub decreases-instances-loop-number : goal.decreases-instances-loop-number
decreases-instances-loop-number l = length (numbers_left l.walk)

abbrev pub decreases-with_part : goal.decreases-with_part
decreases-with_part l = walk_rank (listing_depth l.listing) 0 2

abbrev pub decreases-generated : goal.decreases-generated
decreases-generated l = walk_rank (generators_depth l.listing l.generators.now) (length l.generators.now) 3

abbrev pub decreases-over_names : goal.decreases-over_names
decreases-over_names l = walk_rank (ranging_depth l.ranging) (length l.ranging.later.now) (3 * length l.names.now + 4)

abbrev pub decreases-over_range : goal.decreases-over_range
decreases-over_range l = walk_rank (ranging_depth l.ranging) (length l.ranging.later.now) (3 * length l.rest.now + 6)

abbrev pub decreases-over_numbers : goal.decreases-over_numbers
decreases-over_numbers l = walk_rank (ranging_depth l.ranging) (length l.ranging.later.now) (3 * length l.rest.now + 5)

abbrev pub decreases-over_numbers-loop-number : goal.decreases-over_numbers-loop-number
decreases-over_numbers-loop-number l = length (numbers_left l.walk)

-- ---- what loops keep

abbrev pub invariant-index_extents-loop-index : goal.invariant-index_extents-loop-index
invariant-index_extents-loop-index l = IndicesSoFar (mode_in l.scope) (env_in l.scope) l.fn.totals l.totals l.indices (drop l.index-index l.indices) l.values.items

abbrev pub invariant-part_extents-loop-part : goal.invariant-part_extents-loop-part
invariant-part_extents-loop-part l = PartsSoFar (mode_in l.scope) (env_in l.scope) l.fn.totals l.totals l.parts (drop l.part-index l.parts) l.known.items

abbrev pub invariant-sum_of_terms-loop-term : goal.invariant-sum_of_terms-loop-term
invariant-sum_of_terms-loop-term l = TermsSoFar (mode_in l.scope) (env_in l.scope) l.fn.totals l.totals l.terms l.term-index l.sum

abbrev pub invariant-instances-loop-number : goal.invariant-instances-loop-number
invariant-instances-loop-number l =
    (IsWalk l.walk)
    × ((p : Place) → Instancing (mode_in l.scope)
    (instance_at (mode_in l.scope) (env_in l.scope) p l.quantifier l.name l.rest) (instance_nodes (mode_in l.scope) (env_in l.scope) p l.quantifier l.name l.rest)
    l.fn.totals l.totals l.set (numbers_left l.walk) l.known)

abbrev pub invariant-over_numbers-loop-number : goal.invariant-over_numbers-loop-number
invariant-over_numbers-loop-number l =
    (IsWalk l.walk)
    × ListedSoFar (mode_in l.scope) (known_at (mode_in l.scope) (env_in l.scope) l.ranging l.name l.rest) (nodes_at (mode_in l.scope) (env_in l.scope) l.ranging l.name l.rest)
    l.fn.totals l.totals l.set (numbers_left l.walk) (map grid_of l.fn.front.items) (map grid_of l.more.items)
