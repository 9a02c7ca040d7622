use Rattle.ep_eval.proofs.Words.{ℤ, ap, sym, subst, ◌∙◌, w64, arith, ◌∷◌, ints, to_z-of_z, IsFilledIn, IsWalkBehind, before_rest, left_in, numbers_left}
use Rattle.ep_eval.proofs.walking.next_number.Goals as goal

pub behind_first-requires : goal.behind_first-requires
unfolding IsFilledIn
behind_first-requires c = record { here = subst IsFilledIn c.in-Some.is c.requires.here; behind = c.requires.behind }

pub returns-in-Some-clause-numbers : goal.returns-in-Some-clause-numbers
unfolding before_rest
returns-in-Some-clause-numbers c =
    let lo : ℤ = c.in-Some.run'.lo in
    ap (λ o. left_in o c.args.walk.later.now) c.in-Some.is ∙ c.behind_first.ensures.numbers
    ∙ ap (λ x. x ∷ numbers_left c.behind_first.result) (sym (to_z-of_z w64 lo (omega (arith, ints))))

pub returns-in-Some-clause-walk : goal.returns-in-Some-clause-walk
unfolding IsWalkBehind
returns-in-Some-clause-walk c = c.behind_first.ensures.walk

pub returns-in-None-clause-numbers : goal.returns-in-None-clause-numbers
unfolding before_rest left_in
returns-in-None-clause-numbers c = ap (λ o. left_in o c.args.walk.later.now) c.in-None.is

pub returns-in-None-clause-walk : goal.returns-in-None-clause-walk
unfolding IsWalkBehind
returns-in-None-clause-walk c = tt
