use Rattle.std.proofs.Common.{◌≡◌, ◌<◌, ◌∙◌, List, ap, length, subst, sym, ℕ}
use Rattle.std.specs.Prelude.{slice_index_or}
use Rattle.ep_numbers.specs.declared.spans.Span.{Span}
use Rattle.ep_reach.proofs.Reaching.{if_some_so}
use Rattle.ep_simplify.proofs.Taking.{known_span}
use Rattle.ep_simplify.proofs.Untold.{long_spans}
use Rattle.ep_simplify.proofs.news.span_in.Goals as goal

pub returns-clause-told : goal.returns-clause-told
returns-clause-told c none below near cells h =
    c.span_at.ensures.told none (subst (λ (n : ℕ). c.args.term < n) (sym (ap length c.deref.ensures.value ∙ long_spans cells c.args.news.now h near)) below)

pub returns-clause-reach : goal.returns-clause-reach
returns-clause-reach c = if_some_so c.span_at.result c.span_at.ensures.there
    (λ span k cells h.
    let there = subst (λ (ss : List Span). (c.args.term < length ss) × (span ≡ slice_index_or ss c.args.term span)) c.deref.ensures.value k in
    known_span cells c.args.news.now h c.if-not-news.false c.args.term span there.0 there.1)
