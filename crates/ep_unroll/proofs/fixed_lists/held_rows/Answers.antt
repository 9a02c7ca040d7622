use Rattle.ep_unroll.proofs.Words.{◌≡◌, sym, ap, subst, ◌∙◌, IfOk, rows_of, rows_single, held_value}
use Rattle.ep_unroll.proofs.fixed_lists.held_rows.Goals as goal

pub returns-in-Number : goal.returns-in-Number
unfolding held_value
returns-in-Number c =
    c.new.ensures.items ∙ sym (rows_single c.in-Number.field-0) ∙ ap (λ v. rows_of (held_value v)) (sym c.in-Number.is)

pub returns-in-Lent : goal.returns-in-Lent
unfolding held_value
returns-in-Lent c = subst (λ v. IfOk c.plain_rows.result (λ rows. rows.items ≡ rows_of (held_value v))) (sym c.in-Lent.is) c.plain_rows.ensures

pub returns-in-Made : goal.returns-in-Made
unfolding held_value
returns-in-Made c = subst (λ v. IfOk c.plain_rows-in-Made.result (λ rows. rows.items ≡ rows_of (held_value v))) (sym c.in-Made.is) c.plain_rows-in-Made.ensures
