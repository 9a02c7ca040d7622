use Rattle.ep_eval.proofs.Words.{◌∷◌, Some, ap, sym, ◌∙◌, arith, w64, ints, to_z-of_z, IsStatedFirst}
use Rattle.ep_eval.proofs.reads.first_stated.Goals as goal

pub returns-in-Some-index : goal.returns-in-Some-index
unfolding IsStatedFirst
returns-in-Some-index c =
    c.in-Some.ensures.cases.0 ∙ ap (λ x. x ∷ c.in-Some.rest.now) c.in-Some-index.is
    ∙ ap (λ n. Some n ∷ c.in-Some.rest.now) (sym (to_z-of_z w64 c.in-Some-index.stated (omega (arith, ints))))

pub returns-in-None-index : goal.returns-in-None-index
unfolding IsStatedFirst
returns-in-None-index c = tt

pub returns-in-None : goal.returns-in-None
unfolding IsStatedFirst
returns-in-None c = tt
