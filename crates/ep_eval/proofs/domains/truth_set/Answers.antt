use Rattle.ep_eval.proofs.Words.{[], ◌∷◌, ◌++◌, List, pos, ap, ◌∙◌, Run}
use Rattle.ep_eval.proofs.RangeNumbers.{truths_are}
use Rattle.ep_eval.proofs.domains.truth_set.Goals as goal

pub returns : goal.returns
returns c =
    let run : Run = record { lo = pos 0; hi = pos 1 } in
    truths_are c.in_ok-set.set _ (c.in_ok-push.ensures.items ∙ ap (λ (l : List Run). l ++ run ∷ []) c.new-parts.ensures.items) c.in_ok-set.ensures.ascending c.in_ok-set.ensures.numbers
