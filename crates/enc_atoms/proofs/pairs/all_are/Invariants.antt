use Rattle.std.proofs.Common.{◌≡◌, map, take}
use Rattle.enc_atoms.specs.Steps.{is}
use Rattle.enc_atoms.proofs.pairs.all_are.Given as goal

abbrev pub invariant-loop-var : goal.invariant-loop-var
invariant-loop-var l = l.atoms.items ≡ map (λ x. is x l.number) (take l.var-index l.vars)
