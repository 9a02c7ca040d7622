use Rattle.std.proofs.Common.{◌≡◌, ◌≤◌, drop, false, length}
use Rattle.ep_explain.specs.Narrowing.{IsAllSettled, AreLeft}
use Rattle.ep_explain.specs.Tried.{IsShownOfSome}
use Rattle.ep_instance_parts.specs.Instances.{instance_mode, plain_instance}
use Rattle.sat_search.specs.Logs.{IsSound}
use Rattle.ep_explain.proofs.explaining.leave_out_single.Given as goal

abbrev pub invariant-loop-place : goal.invariant-loop-place
invariant-loop-place g l = record {
  left : AreLeft (instance_mode l.instance) (plain_instance l.instance) l.left.items;
  within : l.place ≤ length l.left.items;
  settled : IsAllSettled (drop l.place l.left.items);
  spent : g.T.Tries.spent l.tries ≡ false;
  shown : IsShownOfSome (g.T.Tries.shown l.tries (instance_mode l.instance)) (plain_instance l.instance);
  budget : g.T.Tries.budget l.tries ≡ g.T.Tries.budget l.fn.tries;
  sound : IsSound (g.T.Tries.log l.fn.tries).events → IsSound (g.T.Tries.log l.tries).events;
}

abbrev pub decreases-loop-place : goal.decreases-loop-place
decreases-loop-place g l = l.place
