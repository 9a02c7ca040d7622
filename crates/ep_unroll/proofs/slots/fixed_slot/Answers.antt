use Rattle.ep_unroll.proofs.Words.{Some, ap, arith, of_z, sym, to_z, w64, ◌∙◌, ints, to_z-of_z, env_in, evaluate, number_in, expr_tree, SlotMeans}
use Rattle.ep_unroll.proofs.SlotSteps.{at_slot, no_slot}
use Rattle.ep_unroll.proofs.slots.fixed_slot.Goals as goal

pub returns-in-Some : goal.returns-in-Some
unfolding SlotMeans
returns-in-Some c n nodes mode =
    at_slot n (env_in c.args.scope) nodes c.args.stated.now (to_z w64 (of_z w64 c.in-Some.number))
    (λ r. ap (λ m. number_in (evaluate m r.values (expr_tree c.args.stated.now))) mode ∙ ap number_in (c.in_ok-seen.ensures n r) ∙ sym c.number_of.ensures ∙ c.in-Some.is ∙ ap Some (sym (to_z-of_z w64 c.in-Some.number (omega (arith, ints)))))

pub returns : goal.returns
returns c n nodes mode =
    no_slot n (env_in c.args.scope) nodes c.args.stated.now
    (λ r. ap (λ m. number_in (evaluate m r.values (expr_tree c.args.stated.now))) mode ∙ ap number_in (c.in_ok-seen.ensures n r) ∙ sym c.number_of.ensures ∙ c.in-None.is)
