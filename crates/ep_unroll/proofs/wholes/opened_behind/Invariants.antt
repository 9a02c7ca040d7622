use Rattle.ep_unroll.proofs.Words.{◌∷◌, drop, AreTerms, worth}
use Rattle.ep_unroll.proofs.LeftSteps.{values_of_all}
use Rattle.ep_unroll.proofs.WholeSteps.{Behind}
use Rattle.ep_unroll.proofs.wholes.opened_behind.Given as goal

abbrev pub invariant-loop-value : goal.invariant-loop-value
invariant-loop-value l =
    Behind (λ nodes numbers. worth nodes numbers l.fn.first ∷ values_of_all l.values) (λ nodes numbers. values_of_all (drop l.value-index l.values)) (λ count. AreTerms count l.fn.first) l.parts.items
