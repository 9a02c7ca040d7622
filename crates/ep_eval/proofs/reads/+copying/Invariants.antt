use Rattle.ep_eval.proofs.Words.{◌≡◌, ◌+◌, ◌*◌, drop, length, map, all_defined, indices_in, read_value, value_tree}
use Rattle.ep_eval.proofs.ReadSteps.{defined_so_far}
use Rattle.ep_eval.proofs.reads.+copying.Given as goal

abbrev pub invariant-read_parts-loop-part : goal.invariant-read_parts-loop-part
invariant-read_parts-loop-part l =
    all_defined (map (λ part. read_value (indices_in l.rest) (value_tree part)) l.parts)
    ≡ defined_so_far (map value_tree l.copies.items) (all_defined (map (λ part. read_value (indices_in l.rest) (value_tree part)) (drop l.part-index l.parts)))

abbrev pub decreases-read_copy : goal.decreases-read_copy
decreases-read_copy l = 3 * length l.indices.now

abbrev pub decreases-read_under : goal.decreases-read_under
decreases-read_under l = 3 * length l.rest.now + 2

abbrev pub decreases-read_every : goal.decreases-read_every
decreases-read_every l = 3 * length l.rest.now + 2

abbrev pub decreases-read_parts : goal.decreases-read_parts
decreases-read_parts l = 3 * length l.rest.now + 1
