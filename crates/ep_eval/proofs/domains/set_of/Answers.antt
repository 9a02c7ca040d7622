use Rattle.ep_eval.proofs.Words.{ap, sym, ◌∙◌, option_map, runs_have}
use Rattle.ep_eval.proofs.RangeNumbers.{none_is, set_is}
use Rattle.ep_eval.proofs.domains.set_of.Goals as goal

pub returns-in_ok-set-in-Some : goal.returns-in_ok-set-in-Some
returns-in_ok-set-in-Some c numbers ascend told =
    set_is c.in_ok-set-in-Some.set c.in-Some.runs.items c.in_ok-set-in-Some.ensures.ascending c.in_ok-set-in-Some.ensures.numbers numbers ascend
    (λ n. sym (ap (option_map (λ v. runs_have n v.items)) c.in-Some.is) ∙ told n)

pub returns-in-None : goal.returns-in-None
returns-in-None c numbers ascend told =
    none_is numbers (λ n. sym (ap (option_map (λ v. runs_have n v.items)) c.in-None.is) ∙ told n)
