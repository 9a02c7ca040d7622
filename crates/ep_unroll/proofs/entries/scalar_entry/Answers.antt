use Rattle.ep_unroll.proofs.EntrySteps.{entries_scalar}
use Rattle.ep_unroll.proofs.FormValues.{if_ok}
use Rattle.ep_unroll.proofs.Words.{worth}
use Rattle.ep_unroll.proofs.entries.scalar_entry.Goals as goal

pub returns : goal.returns
returns c =
    let old = c.args.arena.now in
    if_ok c.one_entry.result _ _
    (λ es h known. entries_scalar old c.scalar_term.new.arena (λ numbers. worth old numbers c.args.known.now) es.keys.items es.terms.items c.in_ok-term.term
    (λ numbers. c.is_scalar.ensures c.if-not-is_scalar.false old numbers) (c.in_ok-term.ensures known) h.0 h.1) c.one_entry.ensures
