use Rattle.std.proofs.Common.{ap, ◌∙◌}
use Rattle.std.proofs.lemmas.Result.{err_from_is_err_and}
use Rattle.ep_parse_below.proofs.DomainLoops.{end_given}
use Rattle.ep_parse_below.proofs.ListLoops.{added_pushed, stops_as, stops_then}
use Rattle.ep_parse_parts.specs.DomainReaders.{of_span}
use Rattle.ep_parse_parts.specs.Gathered.{end_tree}
use Rattle.ep_parse_parts.specs.Readers.{took, ◌and_then◌}
use Rattle.ep_parse_below.proofs.below.Below.span.Goals as goal

pub returns-in_err-last-clause-read : goal.returns-in_err-last-clause-read
returns-in_err-last-clause-read g c =
    let p = err_from_is_err_and c.from_residual.result c.from_residual.ensures.1 in
    rw (p.1, p.2) (stops_as c.in_err-last.field-0.0 _ _ _ (end_given _ _ _) (stops_then c.in_err-last.field-0.0 _ _ _ c.in_err-last.ensures.read))

pub returns : goal.returns
returns g c =
    record {
      read = added_pushed _ _ _ _ _ _ c.push_span.ensures.pushed
          (end_given _ _ _ ∙ ap (λ r. r and_then λ last rest. took (of_span (end_tree c.args.first.end) last) rest) c.in_ok-last.ensures.read.0);
      counted = c.push_span.ensures.counted;
    }

pub push_span-requires : goal.push_span-requires
push_span-requires g c = record { counted = c.requires.counted; first = c.requires.first; last = c.in_ok-last.ensures.read.1 }
