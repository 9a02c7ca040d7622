use Rattle.ep_unroll.proofs.Words.{◌∙◌, ap, refl, sym, w64, to_z-of_z, number_in, worth}
use Rattle.ep_unroll.proofs.FormValues.{if_ok}
use Rattle.ep_unroll.proofs.SummingSteps.{added_same}
use Rattle.ep_unroll.proofs.summing.add_scalar.Goals as goal

pub returns-in-Fixed : goal.returns-in-Fixed
unfolding worth
returns-in-Fixed c =
    if_ok c.add_known.result _ _
    (λ sum h known. added_same c.args.arena.now c.add_known.new.arena c.args.terms.now.items c.add_known.new.terms.items _ sum c.args.constant sum _ _ (to_z-of_z w64 c.args.constant c.ranges.constant) refl
    (λ numbers. c.number_of.ensures ∙ sym (ap (λ x. number_in (worth c.args.arena.now numbers x)) c.in-Fixed.is)) h) c.add_known.ensures

pub returns-in_default : goal.returns-in_default
returns-in_default c =
    if_ok c.add_term.result _ _
    (λ sum h known. added_same c.args.arena.now c.add_term.new.arena c.args.terms.now.items c.add_term.new.terms.items _ sum c.args.constant sum _ _ (to_z-of_z w64 c.args.constant c.ranges.constant) refl
    (λ numbers. refl) (h known)) c.add_term.ensures
