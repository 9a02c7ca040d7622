use Rattle.ep_unroll.proofs.Words.{subst, sym, w64, to_z-of_z, number_in, worth, AddsNumber}
use Rattle.ep_unroll.proofs.SummingSteps.{term_added}
use Rattle.ep_unroll.proofs.summing.add_term.Goals as goal

pub returns : goal.returns
returns c known =
    subst
    (λ d. AddsNumber c.args.arena.now c.scalar_term.new.arena c.args.terms.now.items c.push.new.self.items c.args.constant d (λ numbers. number_in (worth c.args.arena.now numbers c.args.part.now)))
    (sym (to_z-of_z w64 c.args.constant c.ranges.constant))
    (term_added c.args.arena.now c.scalar_term.new.arena c.args.terms.now.items c.push.new.self.items c.args.constant c.in_ok-term.term (λ numbers. number_in (worth c.args.arena.now numbers c.args.part.now))
    (c.in_ok-term.ensures known) c.in_ok-push.ensures.items)
