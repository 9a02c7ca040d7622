use Rattle.ep_size.proofs.Words.{map, measured_of}
use Rattle.ep_size.proofs.SliceSteps.{cut_leaves, kept_some}
use Rattle.ep_size.proofs.slices.+domains_left.Goals as goal

pub returns-in-Some-split_first : goal.returns-in-Some-split_first
returns-in-Some-split_first t c =
    let part = c.in-Some-split_first.ensures.cases.0 in
    kept_some c.domains_with.result _ _
    (c.domains_with.ensures c.in-Some-split_first.inner.now (map measured_of c.in-Some.rest.now) part c.domains_left-left.ensures)
    (λ l h. cut_leaves c.args.indices.now c.in-Some.rest.now c.in-Some.index.now c.args.domains.now c.in-Some-split_first.inner.now l.now
    c.in-Some-split_first.domain.now c.in-Some.ensures.cases.0 part h)
