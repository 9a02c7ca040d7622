use Rattle.ep_eval.proofs.Words.{◌+◌, ◌*◌, drop, length, option_map, Place, size-Expr, depth_of, end_depth, generators_depth, index_depth, listing_depth, walk_rank, nodes_at, parts_at, instance_nodes, instance_value, listed_in, env_in, mode_in, IsWalk, numbers_left, most}
use Rattle.ep_eval.proofs.GeneratingDepths.{ranging_depth}
use Rattle.ep_eval.proofs.GeneratingSteps.{ListedSoFar}
use Rattle.ep_eval.proofs.IndexSteps.{IndicesSoFar}
use Rattle.ep_eval.proofs.Instances.{Gathering}
use Rattle.ep_eval.proofs.LiteralForms.{PartsSoFar}
use Rattle.ep_eval.proofs.PartSteps.{TruthsSoFar}
use Rattle.ep_eval.proofs.RangeNumbers.{RunsSoFar}
use Rattle.ep_eval.proofs.SetForms.{DomainsSoFar}
use Rattle.ep_eval.proofs.TermSteps.{TotalSoFar}
use Rattle.ep_eval.proofs.evaluating.+evaluating.Given as goal

-- ---- what gets smaller

abbrev pub decreases-value_of : goal.decreases-value_of
decreases-value_of l = walk_rank (goal.size-value_of l) 0 0

abbrev pub decreases-numbers_of : goal.decreases-numbers_of
decreases-numbers_of l = walk_rank (goal.size-numbers_of l) 0 0

abbrev pub decreases-part_values : goal.decreases-part_values
decreases-part_values l = walk_rank (goal.size-part_values l) 0 1

abbrev pub decreases-index_set : goal.decreases-index_set
decreases-index_set l = walk_rank (index_depth l.domain.now) 0 1

abbrev pub decreases-truths : goal.decreases-truths
decreases-truths l = walk_rank (goal.size-truths l) 0 1

abbrev pub decreases-total : goal.decreases-total
decreases-total l = walk_rank (most (λ t. size-Expr t.1) l.terms.now) 0 1

abbrev pub decreases-end_number : goal.decreases-end_number
decreases-end_number l = walk_rank (end_depth l.end.now) 0 1

abbrev pub decreases-index_values : goal.decreases-index_values
decreases-index_values l = walk_rank (most end_depth l.indices.now) 0 2

abbrev pub decreases-run_of : goal.decreases-run_of
decreases-run_of l = walk_rank (goal.size-run_of l) 0 2

abbrev pub decreases-runs_of : goal.decreases-runs_of
decreases-runs_of l = walk_rank (goal.size-runs_of l) 0 3

abbrev pub decreases-meet_domains : goal.decreases-meet_domains
decreases-meet_domains l = walk_rank (goal.size-meet_domains l) 0 1

abbrev pub decreases-quantified : goal.decreases-quantified
decreases-quantified l = walk_rank (depth_of l.quantifier) (length l.names.now) 1

abbrev pub decreases-over_domain : goal.decreases-over_domain
decreases-over_domain l = walk_rank (depth_of l.quantifier) (length l.rest.now) 3

abbrev pub decreases-instances : goal.decreases-instances
decreases-instances l = walk_rank (depth_of l.quantifier) (length l.rest.now) 2

abbrev pub decreases-instances-loop-number : goal.decreases-instances-loop-number
decreases-instances-loop-number l = length (numbers_left l.walk)

abbrev pub decreases-with_part : goal.decreases-with_part
decreases-with_part l = walk_rank (listing_depth l.listing) 0 2

abbrev pub decreases-generated : goal.decreases-generated
decreases-generated l = walk_rank (generators_depth l.listing l.generators.now) (length l.generators.now) 3

abbrev pub decreases-over_names : goal.decreases-over_names
decreases-over_names l = walk_rank (ranging_depth l.ranging) (length l.ranging.later.now) (3 * length l.names.now + 4)

abbrev pub decreases-over_range : goal.decreases-over_range
decreases-over_range l = walk_rank (ranging_depth l.ranging) (length l.ranging.later.now) (3 * length l.rest.now + 6)

abbrev pub decreases-over_numbers : goal.decreases-over_numbers
decreases-over_numbers l = walk_rank (ranging_depth l.ranging) (length l.ranging.later.now) (3 * length l.rest.now + 5)

abbrev pub decreases-over_numbers-loop-number : goal.decreases-over_numbers-loop-number
decreases-over_numbers-loop-number l = length (numbers_left l.walk)

-- ---- what loops keep

abbrev pub invariant-part_values-loop-part : goal.invariant-part_values-loop-part
invariant-part_values-loop-part l = PartsSoFar (mode_in l.scope) (env_in l.scope) l.fn.meter l.meter l.parts (drop l.part-index l.parts) (listed_in l.values)

abbrev pub invariant-truths-loop-part : goal.invariant-truths-loop-part
invariant-truths-loop-part l = TruthsSoFar (mode_in l.scope) (env_in l.scope) l.every l.fn.meter l.meter l.parts (drop l.part-index l.parts) l.truth

abbrev pub invariant-total-loop-term : goal.invariant-total-loop-term
invariant-total-loop-term l = TotalSoFar (mode_in l.scope) (env_in l.scope) l.fn.meter l.meter l.terms (drop l.term-index l.terms) l.total

abbrev pub invariant-index_values-loop-index : goal.invariant-index_values-loop-index
invariant-index_values-loop-index l =
    IndicesSoFar (mode_in l.scope) (env_in l.scope) l.fn.meter l.meter l.indices (drop l.index-index l.indices) (option_map (λ v. v.items) l.values)

abbrev pub invariant-runs_of-loop-range : goal.invariant-runs_of-loop-range
invariant-runs_of-loop-range l =
    RunsSoFar (mode_in l.scope) (env_in l.scope) l.fn.meter l.meter l.ranges (drop l.range-index l.ranges) (option_map (λ v. v.items) l.runs)

abbrev pub invariant-meet_domains-loop-domain : goal.invariant-meet_domains-loop-domain
invariant-meet_domains-loop-domain l = DomainsSoFar (mode_in l.scope) (env_in l.scope) l.fn.meter l.meter l.domains (drop l.domain-index l.domains)

abbrev pub invariant-instances-loop-number : goal.invariant-instances-loop-number
invariant-instances-loop-number l =
    (IsWalk l.walk)
    × ((p : Place) → Gathering (mode_in l.scope) l.quantifier.op
    (instance_value (mode_in l.scope) (env_in l.scope) p l.quantifier l.name l.rest)
    (instance_nodes (mode_in l.scope) (env_in l.scope) p l.quantifier l.name l.rest)
    l.fn.meter l.meter l.set (numbers_left l.walk) l.gathered)

abbrev pub invariant-over_numbers-loop-number : goal.invariant-over_numbers-loop-number
invariant-over_numbers-loop-number l =
    (IsWalk l.walk)
    × ListedSoFar (mode_in l.scope) (parts_at (mode_in l.scope) (env_in l.scope) l.ranging l.name l.rest) (nodes_at (mode_in l.scope) (env_in l.scope) l.ranging l.name l.rest)
    l.fn.meter l.meter l.set (numbers_left l.walk) (listed_in l.fn.values) (listed_in l.more)
