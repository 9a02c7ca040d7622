use Rattle.ep_unroll.proofs.Words.{◌≤◌, ◌+◌, ◌*◌, ℤ, List, length, take, IsSome, All, term_value}
use Rattle.ep_unroll.proofs.totals.+telling.Given as goal

abbrev pub decreases-are_total_to : goal.decreases-are_total_to
decreases-are_total_to l = 4 * l.depth + 1

abbrev pub decreases-are_weighed_total_to : goal.decreases-are_weighed_total_to
decreases-are_weighed_total_to l = 4 * l.depth + 1

abbrev pub decreases-is_whole_to : goal.decreases-is_whole_to
decreases-is_whole_to l = 4 * l.depth + 2

abbrev pub decreases-is_total_to : goal.decreases-is_total_to
decreases-is_total_to l = 4 * l.depth

abbrev pub invariant-are_total_to-loop-term : goal.invariant-are_total_to-loop-term
invariant-are_total_to-loop-term l = (numbers : List ℤ) → l.count ≤ length numbers → All (λ t. IsSome (term_value l.arena numbers t)) (take l.term-index l.terms)

abbrev pub invariant-are_weighed_total_to-loop-part : goal.invariant-are_weighed_total_to-loop-part
invariant-are_weighed_total_to-loop-part l = (numbers : List ℤ) → l.count ≤ length numbers → All (λ part. IsSome (term_value l.arena numbers part.1)) (take l.part-index l.parts)
