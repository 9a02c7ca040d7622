use Rattle.ep_unroll.proofs.Words.{◌∷◌, drop, AreTerms, worth, HaveTerms, worths}
use Rattle.ep_unroll.proofs.WholeSteps.{Behind}
use Rattle.ep_unroll.proofs.wholes.copied_behind.Given as goal

abbrev pub invariant-loop-other : goal.invariant-loop-other
invariant-loop-other l =
    Behind (λ nodes numbers. worth nodes numbers l.fn.first ∷ worths nodes numbers l.others) (λ nodes numbers. worths nodes numbers (drop l.other-index l.others))
    (λ count. AreTerms count l.fn.first × HaveTerms count l.others) l.parts.items
