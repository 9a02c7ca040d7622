use Rattle.ep_base.proofs.RunEquality.{runs_compare}
use Rattle.ep_base.proofs.run_lists.RunsPartialEq.eq.Goals as goal

pub returns : goal.returns
returns c =
    rw (c.eq.ensures, c.as_slice.ensures.value, c.as_slice-2.ensures.value, ← c.self.view_is, ← c.other.view_is)
    (runs_compare c.self.inside.runs.items c.other.inside.runs.items c.self.invariant c.other.invariant)
