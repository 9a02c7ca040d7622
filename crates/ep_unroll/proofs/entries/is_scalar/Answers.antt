use Rattle.ep_unroll.proofs.Words.{◌≡◌, ap, slice_get, subst, sym, ◌∙◌, is_some, option_map, no_runs, seen_held, term_value, number_in, single, worth, cells_value}
use Rattle.ep_unroll.proofs.EntrySteps.{scalar_seen, single_again}
use Rattle.ep_unroll.proofs.entries.is_scalar.Goals as goal

pub returns-in-Number : goal.returns-in-Number
unfolding worth
returns-in-Number c told nodes numbers =
    subst (λ x. worth nodes numbers x ≡ option_map single (number_in (worth nodes numbers x))) (sym c.in-Number.is) (single_again (term_value nodes numbers c.in-Number.field-0))

pub returns-in-None : goal.returns-in-None
unfolding worth cells_value
returns-in-None c told nodes numbers =
    subst (λ x. worth nodes numbers x ≡ option_map single (number_in (worth nodes numbers x))) (sym c.in-Cells.is)
    (subst (λ ds. cells_value numbers ds c.in-Cells.field-0 ≡ option_map single (number_in (cells_value numbers ds c.in-Cells.field-0))) (sym (no_runs c.in-Cells.domains.now c.in-None.ensures.cases))
    (single_again (slice_get numbers c.in-Cells.field-0)))

pub returns-in-Fixed : goal.returns-in-Fixed
unfolding worth
returns-in-Fixed c told nodes numbers =
    subst (λ x. worth nodes numbers x ≡ option_map single (number_in (worth nodes numbers x))) (sym c.in-Fixed.is)
    (scalar_seen (seen_held c.in-Fixed.seen) (sym (c.is_some.ensures ∙ ap is_some c.number_of.ensures) ∙ told))
