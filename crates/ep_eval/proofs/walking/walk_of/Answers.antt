use Rattle.ep_eval.proofs.Words.{ap, sym, subst, All, numbers, All-head, All-tail, IsFilled, IsFilledIn, left_in}
use Rattle.ep_eval.proofs.WalkSteps.{no_runs}
use Rattle.ep_eval.proofs.walking.walk_of.Goals as goal

pub returns-in-Some-clause-numbers : goal.returns-in-Some-clause-numbers
unfolding left_in numbers
returns-in-Some-clause-numbers c = sym (ap numbers c.in-Some.ensures.cases.0)

pub returns-in-Some-clause-walk : goal.returns-in-Some-clause-walk
unfolding IsFilledIn
returns-in-Some-clause-walk c =
    let all = subst (All IsFilled) c.in-Some.ensures.cases.0 c.requires in
    record { here = All-head IsFilled c.in-Some.run'.now c.in-Some.later.now all; behind = All-tail IsFilled c.in-Some.run'.now c.in-Some.later.now all }

pub returns-in-None-clause-numbers : goal.returns-in-None-clause-numbers
unfolding left_in numbers
returns-in-None-clause-numbers c = sym (ap numbers (no_runs c.args.runs.now c.in-None.ensures.cases))

pub returns-in-None-clause-walk : goal.returns-in-None-clause-walk
unfolding IsFilledIn
returns-in-None-clause-walk c = record { here = tt; behind = c.requires }
