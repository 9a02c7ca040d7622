use Rattle.std.proofs.Common.{rules, ◌≤◌, length}
use Rattle.ep_flatten.proofs.Ends.{no_domain}
use Rattle.ep_flatten.proofs.building.cell_span.Goals as goal

pub returns-else-place-len-clause-holds : goal.returns-else-place-len-clause-holds
returns-else-place-len-clause-holds c =
    let above : length c.args.made.now.vars.items ≤ c.args.variable = search rules in
    no_domain c.args.made.now.vars.items c.args.variable above
