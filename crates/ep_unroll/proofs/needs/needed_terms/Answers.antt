use Rattle.ep_unroll.proofs.Words.{subst, sym, worth, AreNeeded}
use Rattle.ep_unroll.proofs.FormValues.{if_ok}
use Rattle.ep_unroll.proofs.needs.needed_terms.Goals as goal

pub returns-in-Cells : goal.returns-in-Cells
unfolding worth
returns-in-Cells c =
    if_ok c.cells_need.result _ _
    (λ us h. subst (λ x. AreNeeded c.args.arena.now c.args.arena.now c.args.count (λ numbers. worth c.args.arena.now numbers x) us.items) (sym c.in-Cells.is) h) (c.cells_need.ensures c.args.arena.now)

pub returns-in-Fixed : goal.returns-in-Fixed
unfolding worth
returns-in-Fixed c =
    if_ok c.seen_needs.result _ _
    (λ us h. subst (λ x. AreNeeded c.args.arena.now c.seen_needs.new.arena c.args.count (λ numbers. worth c.args.arena.now numbers x) us.items) (sym c.in-Fixed.is) h) c.seen_needs.ensures
