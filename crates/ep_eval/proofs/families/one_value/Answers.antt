use Rattle.ep_eval.proofs.Words.{sym, subst, refl, seen_held, IsWorth, one_numbers, one_value, folded_numbers, scalars_in, Seen}
use Rattle.ep_eval.proofs.WorthSteps.{far_fold, worth_gives, worth_gives_at, worth_seen}
use Rattle.ep_eval.proofs.families.one_value.Goals as goal

pub returns-in-Group : goal.returns-in-Group
unfolding one_value one_numbers
returns-in-Group c =
    subst (λ o. IsWorth (one_numbers c.args.mode o (seen_held c.args.seen)) (one_value c.args.mode o (seen_held c.args.seen)) (Seen c.args.seen)) (sym c.in-Group.is) (worth_seen _ c.args.seen refl)

pub returns-in-ToInt : goal.returns-in-ToInt
unfolding one_value one_numbers
returns-in-ToInt c =
    subst (λ o. IsWorth (one_numbers c.args.mode o (seen_held c.args.seen)) (one_value c.args.mode o (seen_held c.args.seen)) (Seen c.args.seen)) (sym c.in-ToInt.is) (worth_seen _ c.args.seen refl)

pub returns-in-Not : goal.returns-in-Not
unfolding one_value one_numbers
returns-in-Not c =
    subst (λ o. IsWorth (one_numbers c.args.mode o (seen_held c.args.seen)) (one_value c.args.mode o (seen_held c.args.seen)) (Seen c.negation.result)) (sym c.in-Not.is) (worth_seen _ c.negation.result c.negation.ensures)

pub returns-in-Neg : goal.returns-in-Neg
unfolding one_value one_numbers
returns-in-Neg c =
    subst (λ o. IsWorth (one_numbers c.args.mode o (seen_held c.args.seen)) (one_value c.args.mode o (seen_held c.args.seen)) c.in_ok-worth-in-Neg.worth) (sym c.in-Neg.is)
    (worth_gives _ _ _ c.minus.ensures c.in_ok-worth-in-Neg.ensures)

pub returns-in-Abs : goal.returns-in-Abs
unfolding one_value one_numbers
returns-in-Abs c =
    subst (λ o. IsWorth (one_numbers c.args.mode o (seen_held c.args.seen)) (one_value c.args.mode o (seen_held c.args.seen)) c.in_ok-worth-in-Abs.worth) (sym c.in-Abs.is)
    (worth_gives _ _ _ c.absolute.ensures c.in_ok-worth-in-Abs.ensures)

pub returns-in-Factorial : goal.returns-in-Factorial
unfolding one_value one_numbers
returns-in-Factorial c =
    subst (λ o. IsWorth (one_numbers c.args.mode o (seen_held c.args.seen)) (one_value c.args.mode o (seen_held c.args.seen)) c.in_ok-worth-in-Factorial.worth) (sym c.in-Factorial.is)
    (worth_gives _ _ _ c.factorial.ensures c.in_ok-worth-in-Factorial.ensures)

pub returns-in-Flatten : goal.returns-in-Flatten
unfolding one_value one_numbers
returns-in-Flatten c =
    subst (λ o. IsWorth (one_numbers c.args.mode o (seen_held c.args.seen)) (one_value c.args.mode o (seen_held c.args.seen)) c.in_ok-worth-in-Flatten.worth) (sym c.in-Flatten.is)
    (worth_gives _ _ _ c.flattened.ensures c.in_ok-worth-in-Flatten.ensures)

pub returns-in-AllDiff : goal.returns-in-AllDiff
unfolding one_value one_numbers
returns-in-AllDiff c =
    subst (λ o. IsWorth (one_numbers c.args.mode o (seen_held c.args.seen)) (one_value c.args.mode o (seen_held c.args.seen)) c.in_ok-worth-in-AllDiff.worth) (sym c.in-AllDiff.is)
    (worth_gives _ _ _ c.difference.ensures c.in_ok-worth-in-AllDiff.ensures)

pub returns : goal.returns
unfolding one_value one_numbers
returns c =
    let fold = c.in-Fold.fold in
    subst (λ o. IsWorth (one_numbers c.args.mode o (seen_held c.args.seen)) (one_value c.args.mode o (seen_held c.args.seen)) c.in_ok-worth-in-Fold.worth) (sym c.in-Fold.is)
    (worth_gives_at (folded_numbers c.args.mode fold (scalars_in (seen_held c.args.seen))) _ _ _ (far_fold c.args.mode fold (scalars_in (seen_held c.args.seen))) c.folded.ensures c.in_ok-worth-in-Fold.ensures)
