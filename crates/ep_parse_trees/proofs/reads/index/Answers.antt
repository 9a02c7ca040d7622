use Rattle.std.proofs.Common.{ap, ◌∙◌}
use Rattle.std.proofs.lemmas.Result.{err_from_is_err_and}
use Rattle.ep_parse_below.proofs.ListLoops.{every_added, index_added, index_dots, index_part, stops_as, stops_then}
use Rattle.ep_parse_parts.specs.Readers.{Read, took, ◌and_then◌}
use Rattle.std.proofs.Common.{Some}
use Rattle.ep_parse_trees.proofs.reads.index.Goals as goal

pub returns-then-passes : goal.returns-then-passes
returns-then-passes g c =
    record { read = every_added _ _ _ _ _ c.push_every.ensures.pushed c.push_every.ensures.counted (index_dots _ _ _ _ c.if-passes.ensures.passed) }

pub returns-in_err-index : goal.returns-in_err-index
returns-in_err-index g c =
    let p = err_from_is_err_and c.from_residual.result c.from_residual.ensures.1 in
    record { read = rw (p.1, p.2) (stops_as c.in_err-index.field-0.0 _ _ _ (index_part _ _ _ _ c.if-passes.ensures.passed) (stops_then c.in_err-index.field-0.0 _ _ _ c.in_err-index.ensures.read)) }

pub returns : goal.returns
returns g c =
    record {
      read = index_added _ _ _ _ _ _ c.requires.counted c.push.ensures.pushed c.push.ensures.counted
          (index_part _ _ _ _ c.if-passes.ensures.passed ∙ ap (λ r. r and_then λ e rest. took (c.args.indices.now.has_every, Some e) rest) c.in_ok-index.ensures.read.0);
    }
