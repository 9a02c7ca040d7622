use Rattle.ep_eval.proofs.Words.{Some, sym, ap, ◌∙◌, option_map, lex_holds, scalars_in, truth_in, seen_held}
use Rattle.ep_eval.proofs.Both.{both_some, first_none, second_none}
use Rattle.ep_eval.proofs.orders.lex_comparison.Goals as goal

pub returns-in-Some-right : goal.returns-in-Some-right
returns-in-Some-right c =
    let op = c.args.op in
    let left = c.in-Some.left in
    let right = c.in-Some-right.right in
    c.truth_value.ensures
    ∙ ap (λ b. truth_in c.args.mode (Some b)) (c.lex_between.ensures ∙ ap (λ l. lex_holds op l c.deref-in-Some-right.result.now) c.deref.ensures.value ∙ ap (lex_holds op left.items) c.deref-in-Some-right.ensures.value)
    ∙ ap (truth_in c.args.mode) (sym (both_some (lex_holds op) (scalars_in (seen_held c.args.first.now)) (scalars_in (seen_held c.args.second.now)) left.items right.items
    (sym c.in_ok-left.ensures ∙ ap (option_map (λ v. v.items)) c.in-Some.is) (sym c.in_ok-right.ensures ∙ ap (option_map (λ v. v.items)) c.in-Some-right.is)))

pub returns-in-Some : goal.returns-in-Some
returns-in-Some c =
    c.truth_value-in-None-right.ensures
    ∙ ap (truth_in c.args.mode) (sym (second_none (lex_holds c.args.op) (scalars_in (seen_held c.args.first.now)) (scalars_in (seen_held c.args.second.now)) c.in-Some.left.items
    (sym c.in_ok-left.ensures ∙ ap (option_map (λ v. v.items)) c.in-Some.is) (sym c.in_ok-right.ensures ∙ ap (option_map (λ v. v.items)) c.in-None-right.is)))

pub returns : goal.returns
returns c =
    c.truth_value-in-None.ensures
    ∙ ap (truth_in c.args.mode) (sym (first_none (lex_holds c.args.op) (scalars_in (seen_held c.args.first.now)) (scalars_in (seen_held c.args.second.now))
    (sym c.in_ok-left.ensures ∙ ap (option_map (λ v. v.items)) c.in-None.is)))
