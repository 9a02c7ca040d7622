use Rattle.ep_eval.proofs.Words.{sym, ap, ◌∙◌, map, option_map, is_row_of, rows_in, scalars_in, truth_in, seen_held}
use Rattle.ep_eval.proofs.Defined.{on_first_none, on_second_none, on_some}
use Rattle.ep_eval.proofs.counts.look_up_row.Goals as goal

pub returns-in-Some-parts : goal.returns-in-Some-parts
returns-in-Some-parts c =
    let rows = c.in-Some.rows in
    let parts = c.in-Some-parts.parts in
    c.truth_value.ensures
    ∙ ap (truth_in c.args.mode)
    (c.is_row.ensures ∙ ap (λ l. is_row_of (map (λ v. v.items) l) c.deref-in-Some-parts.result.now) c.deref.ensures.value
    ∙ ap (is_row_of (map (λ v. v.items) rows.items)) c.deref-in-Some-parts.ensures.value
    ∙ sym (on_some (rows_in (seen_held c.args.table.now)) (scalars_in (seen_held c.args.row.now)) is_row_of (map (λ v. v.items) rows.items) parts.items
    (sym c.in_ok-rows.ensures ∙ ap (option_map (λ all. map (λ v. v.items) all.items)) c.in-Some.is) (sym c.in_ok-parts.ensures ∙ ap (option_map (λ v. v.items)) c.in-Some-parts.is)))

pub returns-in-Some : goal.returns-in-Some
returns-in-Some c =
    c.truth_value-in-None-parts.ensures
    ∙ ap (truth_in c.args.mode)
    (sym (on_second_none (rows_in (seen_held c.args.table.now)) (scalars_in (seen_held c.args.row.now)) is_row_of (map (λ v. v.items) c.in-Some.rows.items)
    (sym c.in_ok-rows.ensures ∙ ap (option_map (λ all. map (λ v. v.items) all.items)) c.in-Some.is) (sym c.in_ok-parts.ensures ∙ ap (option_map (λ v. v.items)) c.in-None-parts.is)))

pub returns : goal.returns
returns c =
    c.truth_value-in-None.ensures
    ∙ ap (truth_in c.args.mode)
    (sym (on_first_none (rows_in (seen_held c.args.table.now)) (scalars_in (seen_held c.args.row.now)) is_row_of
    (sym c.in_ok-rows.ensures ∙ ap (option_map (λ all. map (λ v. v.items) all.items)) c.in-None.is)))
