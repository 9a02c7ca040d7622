use Rattle.ep_eval.proofs.Words.{Some, w64, sym, ap, ◌∙◌, arith, to_z-of_z, ints, number_in, held_value}
use Rattle.ep_eval.proofs.held.held_number.Goals as goal

pub returns-in-Number : goal.returns-in-Number
unfolding number_in held_value
returns-in-Number c =
    ap Some (to_z-of_z w64 c.in-Number.number (omega (arith, ints)))
    ∙ ap (λ v. number_in (Some (held_value v))) (sym c.in-Number.is)

pub returns-in-Lent : goal.returns-in-Lent
unfolding held_value
returns-in-Lent c = c.plain_number.ensures ∙ ap (λ v. number_in (Some (held_value v))) (sym c.in-Lent.is)

pub returns-in-Made : goal.returns-in-Made
unfolding held_value
returns-in-Made c = c.plain_number-in-Made.ensures ∙ ap (λ v. number_in (Some (held_value v))) (sym c.in-Made.is)
