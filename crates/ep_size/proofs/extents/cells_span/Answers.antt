use Rattle.ep_size.proofs.Words.{ap, sym, ◌∙◌, no_runs, filled, plain_span}
use Rattle.ep_tree.specs.Reach as defined
use Rattle.ep_size.proofs.extents.cells_span.Goals as goal

pub returns-in-Some : goal.returns-in-Some
unfolding filled defined.span_of
returns-in-Some c =
    c.undefined_number.ensures ∙ sym (ap (λ is. defined.span_of (filled (plain_span c.args.span) is)) c.in-Some.ensures.cases.0)

pub returns-in-None : goal.returns-in-None
unfolding filled defined.span_of
returns-in-None c =
    sym (ap (λ is. defined.span_of (filled (plain_span c.args.span) is)) (no_runs c.args.indices.now c.in-None.ensures.cases))
