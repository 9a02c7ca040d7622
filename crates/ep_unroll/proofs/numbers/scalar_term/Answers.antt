use Rattle.ep_unroll.proofs.Words.{ap, sym, subst, ◌∙◌, length, None, refl, number_in, as_parts, matrix, AreTerms, worth, HasNumber, cells_value}
use Rattle.ep_unroll.proofs.FormValues.{if_ok}
use Rattle.ep_unroll.proofs.NumberSteps.{has_same, number_kept, of_matrix}
use Rattle.ep_unroll.proofs.numbers.scalar_term.Goals as goal

pub returns-in-Number : goal.returns-in-Number
returns-in-Number c known =
    let nodes = c.args.arena.now in
    subst (λ x. HasNumber nodes nodes (λ numbers. number_in (worth nodes numbers x)) c.in-Number.term) (sym c.in-Number.is)
    (number_kept nodes c.in-Number.term (subst (AreTerms (length nodes)) c.in-Number.is known))

pub returns-in-Cells : goal.returns-in-Cells
unfolding worth
returns-in-Cells c =
    if_ok c.cell_term.result _ _
    (λ t has known. has_same c.args.arena.now c.cell_term.new.arena (λ numbers. number_in (cells_value numbers c.in-Cells.indices.now c.in-Cells.first)) _ t
    (λ numbers. sym (ap (λ x. number_in (worth c.args.arena.now numbers x)) c.in-Cells.is)) has) c.cell_term.ensures

pub returns-in-Fixed : goal.returns-in-Fixed
unfolding worth
returns-in-Fixed c =
    if_ok c.number_or_undefined.result _ _
    (λ t has known. has_same c.args.arena.now c.number_or_undefined.new.arena (λ numbers. c.number_of.result) _ t
    (λ numbers. c.number_of.ensures ∙ sym (ap (λ x. number_in (worth c.args.arena.now numbers x)) c.in-Fixed.is)) has) c.number_or_undefined.ensures

pub returns-in-Matrix : goal.returns-in-Matrix
unfolding worth number_in
returns-in-Matrix c =
    if_ok c.number_or_undefined-in-Matrix.result _ _
    (λ t has known. has_same c.args.arena.now c.number_or_undefined-in-Matrix.new.arena (λ numbers. None) _ t
    (λ numbers. sym (ap (λ x. number_in (worth c.args.arena.now numbers x)) c.in-Matrix.is ∙ of_matrix (λ vs. matrix c.in-Matrix.field-0.items (as_parts vs)) _ (λ vs. refl))) has) c.number_or_undefined-in-Matrix.ensures
