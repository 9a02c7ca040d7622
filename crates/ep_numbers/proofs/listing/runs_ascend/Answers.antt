use Rattle.std.proofs.Common.{subst}
use Rattle.ep_base.proofs.RunSteps.{numbers_ascend}
use Rattle.ep_base.specs.Runs.{IsAscending}
use Rattle.ep_numbers.proofs.listing.runs_ascend.Goals as goal

pub returns : goal.returns
returns c = subst IsAscending c.runs-runs.ensures.numbers (numbers_ascend c.runs-runs.result.now c.runs-runs.ensures.apart)
