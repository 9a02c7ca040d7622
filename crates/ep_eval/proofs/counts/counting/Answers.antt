use Rattle.ep_eval.proofs.Words.{sym, ap, ◌∙◌, option_map, counts_hold, on_both, scalars_in, truth_in, seen_held}
use Rattle.ep_eval.proofs.Defined.{three_none, three_some}
use Rattle.ep_eval.proofs.counts.counting.Goals as goal

pub returns-in-Some : goal.returns-in-Some
returns-in-Some c =
    let op = c.args.op in
    let values = scalars_in (seen_held c.args.values.now) in
    let counts = scalars_in (seen_held c.args.counts.now) in
    let parts = c.in-Some.parts in
    c.truth_value.ensures
    ∙ ap (truth_in c.args.mode)
    (c.told.ensures ∙ ap (λ o. on_both o (option_map (λ v. v.items) c.in_ok-counts.counts) (counts_hold op c.deref.result.now)) c.in_ok-values.ensures
    ∙ ap (λ o. on_both values o (counts_hold op c.deref.result.now)) c.in_ok-counts.ensures ∙ ap (λ l. on_both values counts (counts_hold op l)) c.deref.ensures.value
    ∙ sym (three_some (scalars_in (seen_held c.args.seen.now)) values counts (counts_hold op) parts.items (sym c.in_ok-parts.ensures ∙ ap (option_map (λ v. v.items)) c.in-Some.is)))

pub returns-in-None : goal.returns-in-None
returns-in-None c =
    c.truth_value-in-None.ensures
    ∙ ap (truth_in c.args.mode)
    (sym (three_none (scalars_in (seen_held c.args.seen.now)) (scalars_in (seen_held c.args.values.now)) (scalars_in (seen_held c.args.counts.now)) (counts_hold c.args.op)
    (sym c.in_ok-parts.ensures ∙ ap (option_map (λ v. v.items)) c.in-None.is)))
