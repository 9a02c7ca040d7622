use Rattle.ep_size.proofs.Words.{sym, ap, ◌++◌, ◌∙◌, map, no_runs, plain_span}
use Rattle.ep_size.proofs.KnownParts.{nothing_added}
use Rattle.ep_size.proofs.ReadSteps.{number_gone, number_whole}
use Rattle.ep_size.proofs.ScalarParts.{span_pushed}
use Rattle.ep_size.proofs.picked.add_number_left.Goals as goal

pub returns-in-Some-clause-added : goal.returns-in-Some-clause-added
returns-in-Some-clause-added c =
    nothing_added (map plain_span c.args.spans.now.items) _ (sym (number_gone c.args.indices.now _ _ (plain_span c.args.span) c.in-Some.ensures.cases.0))

pub returns-in_ok-push-in-None-clause-added : goal.returns-in_ok-push-in-None-clause-added
returns-in_ok-push-in-None-clause-added c =
    span_pushed c.args.spans.now.items _ c.args.span c.in_ok-push-in-None.ensures.items
    ∙ ap (λ l. map plain_span c.args.spans.now.items ++ l) (number_whole c.args.indices.now (plain_span c.args.span) (no_runs c.args.indices.now c.in-None.ensures.cases))
