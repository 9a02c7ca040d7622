use Rattle.ep_eval.proofs.Words.{Some, subst, arith, w128, ints, to_z-of_z, single, Gives}
use Rattle.ep_eval.proofs.numbers.number_seen.Goals as goal

pub returns : goal.returns
returns c =
    subst (λ n. Gives c.seen_near.result (Some (single n))) (to_z-of_z w128 c.args.number (omega (arith, ints)))
    (c.seen_near.ensures _ c.near_number.ensures.same c.near_number.ensures.told)
