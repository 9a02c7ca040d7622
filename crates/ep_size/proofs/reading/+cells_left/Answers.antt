use Rattle.ep_size.proofs.Words.{no_runs}
use Rattle.ep_size.proofs.ReadSteps.{left_more, left_nothing, left_whole}
use Rattle.ep_size.proofs.reading.+cells_left.Goals as goal

pub returns-in-Some-split_first : goal.returns-in-Some-split_first
returns-in-Some-split_first t c =
    left_more c.args.indices.now c.in-Some.rest.now c.in-Some.index.now c.args.domains.now c.in-Some-split_first.inner.now c.in-Some-split_first.domain.now
    c.kept_parts.result c.cells_left.result c.product.result c.in-Some.ensures.cases.0 c.in-Some-split_first.ensures.cases.0 c.kept_parts.ensures c.cells_left.ensures
    c.product.ensures

pub returns-in-None-split_first : goal.returns-in-None-split_first
returns-in-None-split_first t c =
    left_nothing c.args.indices.now c.in-Some.rest.now c.in-Some.index.now c.args.domains.now c.in-Some.ensures.cases.0
    (no_runs c.args.domains.now c.in-None-split_first.ensures.cases)

pub returns-in-None : goal.returns-in-None
returns-in-None t c =
    left_whole c.args.indices.now c.args.domains.now c.cells_over.result (no_runs c.args.indices.now c.in-None.ensures.cases) c.cells_over.ensures
