use Rattle.ep_size.proofs.Words.{◌∷◌, map, subst, sym, no_runs, measured_of, LeavesDomains}
use Rattle.ep_size.proofs.SliceSteps.{cut_leaves, every_leaves, nothing_leaves}
use Rattle.ep_size.proofs.slices.+keeps_each.Goals as goal

pub returns-in-Every : goal.returns-in-Every
returns-in-Every t c h =
    let all = c.args.indices.now in
    let domains = c.args.domains.now in
    let d = c.in-Some-split_first.field-0-0.now in
    let inner = c.in-Some-split_first.inner.now in
    let part = c.in-Some-split_first.ensures.cases.0 in
    subst (λ l. LeavesDomains (map measured_of all) domains l) (sym part)
    (cut_leaves all c.in-Some.rest.now c.in-Some.index.now domains inner (d ∷ inner) d c.in-Some.ensures.cases.0 part
    (every_leaves c.in-Some.index.now (map measured_of c.in-Some.rest.now) d inner inner c.in-Every.is (c.keeps_each.ensures h)))

pub returns-in-None : goal.returns-in-None
returns-in-None t c h = nothing_leaves c.args.indices.now c.args.domains.now (no_runs c.args.indices.now c.in-None.ensures.cases)
