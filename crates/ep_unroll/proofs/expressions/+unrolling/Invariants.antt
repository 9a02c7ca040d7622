use Rattle.ep_unroll.proofs.Words.{◌+◌, ◌*◌, length, Place, env_in, mode_in, IsWalk, numbers_left, domain_tree, numbering_of, parts_in, depth_of, end_depth, generators_depth, greater, listing_depth, walk_rank, parts_at, ranging_depth, size-Expr, most}
use Rattle.ep_unroll.proofs.CycleSteps.{InstancesSoFar, SignedSoFar, TermsSoFar}
use Rattle.ep_unroll.proofs.SlotSteps.{SlotsSoFar}
use Rattle.ep_unroll.proofs.PartListSteps.{KnownSoFar, ListsSoFar}
use Rattle.ep_unroll.proofs.TypedReadings.{AreOfScalar}
use Rattle.ep_unroll.proofs.expressions.+unrolling.Given as goal

abbrev pub decreases-unrolled : goal.decreases-unrolled
decreases-unrolled l = walk_rank (goal.size-unrolled l) 0 1

abbrev pub decreases-term_of : goal.decreases-term_of
decreases-term_of l = walk_rank (goal.size-term_of l) 0 2

abbrev pub decreases-scalars_of : goal.decreases-scalars_of
decreases-scalars_of l = walk_rank (goal.size-scalars_of l) 0 2

abbrev pub decreases-one_unrolled : goal.decreases-one_unrolled
decreases-one_unrolled l = walk_rank (goal.size-one_unrolled l) 0 5

abbrev pub decreases-two_term : goal.decreases-two_term
decreases-two_term l = walk_rank (greater (size-Expr l.left.now) (size-Expr l.right.now)) 0 5

abbrev pub decreases-counted_term : goal.decreases-counted_term
decreases-counted_term l = walk_rank (greater (size-Expr l.list.now) (size-Expr l.other.now)) 0 5

abbrev pub decreases-read_unrolled : goal.decreases-read_unrolled
decreases-read_unrolled l = walk_rank (greater (size-Expr l.matrix.now) (most end_depth l.indices.now)) 0 5

abbrev pub decreases-terms_of_all : goal.decreases-terms_of_all
decreases-terms_of_all l = walk_rank (goal.size-terms_of_all l) 0 3

abbrev pub decreases-signed_terms : goal.decreases-signed_terms
decreases-signed_terms l = walk_rank (most (λ t. size-Expr t.1) l.terms.now) 0 3

abbrev pub decreases-parts_of_all : goal.decreases-parts_of_all
decreases-parts_of_all l = walk_rank (goal.size-parts_of_all l) 0 3

abbrev pub decreases-slot_of : goal.decreases-slot_of
decreases-slot_of l = walk_rank (end_depth l.index.now) 0 3

abbrev pub decreases-slots_of : goal.decreases-slots_of
decreases-slots_of l = walk_rank (most end_depth l.indices.now) 0 4

abbrev pub decreases-quantified : goal.decreases-quantified
decreases-quantified l = walk_rank (depth_of l.quantifier) (length l.names.now) 2

abbrev pub decreases-over_domain : goal.decreases-over_domain
decreases-over_domain l = walk_rank (depth_of l.quantifier) (length l.rest.now) 4

abbrev pub decreases-instances : goal.decreases-instances
decreases-instances l = walk_rank (depth_of l.quantifier) (length l.rest.now) 3

abbrev pub decreases-with_part : goal.decreases-with_part
decreases-with_part l = walk_rank (listing_depth l.listing) 0 2

abbrev pub decreases-generated : goal.decreases-generated
decreases-generated l = walk_rank (generators_depth l.listing l.generators.now) (length l.generators.now) 3

abbrev pub decreases-over_names : goal.decreases-over_names
decreases-over_names l = walk_rank (ranging_depth l.ranging) (length l.ranging.later.now) (3 * length l.names.now + 4)

abbrev pub decreases-over_numbers : goal.decreases-over_numbers
decreases-over_numbers l = walk_rank (ranging_depth l.ranging) (length l.ranging.later.now) (3 * length l.rest.now + 5)

abbrev pub decreases-instances-loop-number : goal.decreases-instances-loop-number
decreases-instances-loop-number l = length (numbers_left l.walk)

abbrev pub invariant-instances-loop-number : goal.invariant-instances-loop-number
invariant-instances-loop-number l =
    (IsWalk l.walk)
    × ((p : Place) → InstancesSoFar (numbering_of (mode_in l.scope) l.table) (env_in l.scope) l.fn.arena l.arena p l.quantifier l.name l.rest l.set (numbers_left l.walk) l.terms.items)
    × AreOfScalar (numbering_of (mode_in l.scope) l.table) (env_in l.scope) (domain_tree l.quantifier.domain.now) (numbers_left l.walk)

abbrev pub invariant-terms_of_all-loop-part : goal.invariant-terms_of_all-loop-part
invariant-terms_of_all-loop-part l = TermsSoFar (numbering_of (mode_in l.scope) l.table) (env_in l.scope) l.fn.arena l.arena l.parts l.part-index l.terms.items

abbrev pub invariant-signed_terms-loop-term : goal.invariant-signed_terms-loop-term
invariant-signed_terms-loop-term l = SignedSoFar (numbering_of (mode_in l.scope) l.table) (env_in l.scope) l.fn.arena l.arena l.terms l.term-index l.parts.items

abbrev pub invariant-slots_of-loop-index : goal.invariant-slots_of-loop-index
invariant-slots_of-loop-index l = SlotsSoFar (numbering_of (mode_in l.scope) l.table) (env_in l.scope) l.fn.arena l.arena l.indices l.index-index l.slots.items

abbrev pub decreases-over_numbers-loop-number : goal.decreases-over_numbers-loop-number
decreases-over_numbers-loop-number l = length (numbers_left l.walk)

abbrev pub invariant-over_numbers-loop-number : goal.invariant-over_numbers-loop-number
invariant-over_numbers-loop-number l =
    (IsWalk l.walk)
    × ListsSoFar (numbering_of (mode_in l.scope) l.table) (env_in l.scope) l.fn.arena l.arena (parts_in l.fn.parts) (parts_in l.more) (λ env. parts_at (mode_in l.scope) env l.ranging l.name l.rest) l.set (numbers_left l.walk)
    × AreOfScalar (numbering_of (mode_in l.scope) l.table) (env_in l.scope) (domain_tree l.ranging.domain.now) (numbers_left l.walk)

abbrev pub invariant-parts_of_all-loop-part : goal.invariant-parts_of_all-loop-part
invariant-parts_of_all-loop-part l = KnownSoFar (numbering_of (mode_in l.scope) l.table) (env_in l.scope) l.fn.arena l.arena l.parts l.part-index l.known.items
