use Rattle.std.proofs.Common.{refl}
use Rattle.ep_base.proofs.RunEquality.{first_number}
use Rattle.ep_base.proofs.run_lists.RunsHash.hash.Goals as goal

pub returns : goal.returns
returns g c =
    rw (c.hash.ensures, c.first_start.ensures, c.deref.ensures.value, ← c.self.view_is, ← first_number c.self.inside.runs.items c.self.invariant) refl
