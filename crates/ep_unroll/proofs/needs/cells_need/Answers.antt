use Rattle.ep_unroll.proofs.NeedSteps.{cells_needed}
use Rattle.ep_unroll.proofs.needs.cells_need.Goals as goal

pub returns : goal.returns
returns c nodes = cells_needed nodes c.args.count c.args.first c.args.domains.now c.new.result.items (c.in_ok-there.ensures c.if-not-there.false) c.new.ensures.items
