use Rattle.std.proofs.Common.{◌∙◌, ℤ, map, take, ap, w64, arith}
use Rattle.std.proofs.lemmas.Int.{ints, to_z-of_z}
use Rattle.std.proofs.lemmas.List.{take_all}
use Rattle.enc_atoms.specs.Steps.{are_all, is}
use Rattle.enc_atoms.proofs.pairs.all_are.Goals as goal

pub returns : goal.returns
unfolding are_all
returns c =
    let v : ℤ = c.args.number in
    c.loop-var.invariant
    ∙ ap (λ (w : ℤ). map (λ x. is x w) (take c.loop-var.var-index c.args.vars.now)) (to_z-of_z w64 v (omega (arith, ints)))
    ∙ ap (map (λ x. is x v)) (take_all c.loop-var.var-index c.args.vars.now (omega arith))
