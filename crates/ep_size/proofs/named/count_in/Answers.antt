use Rattle.ep_size.proofs.Words.{ap, sym, ◌∙◌, arith, w64, to_z, of_z, ints, to_z-of_z, from_to, width, length_of_run}
use Rattle.ep_size.proofs.named.count_in.Goals as goal

pub returns : goal.returns
unfolding width
returns c =
    let run = c.args.run in
    let lo = to_z-of_z w64 run.lo (omega (arith, ints)) in
    let hi = to_z-of_z w64 run.hi (omega (arith, ints)) in
    c.width.ensures ∙ ap (λ x. width (from_to x (to_z w64 (of_z w64 run.hi)))) lo ∙ ap (λ x. width (from_to run.lo x)) hi ∙ sym (length_of_run run)
