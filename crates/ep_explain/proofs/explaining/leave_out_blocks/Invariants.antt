use Rattle.std.proofs.Common.{◌≡◌, false}
use Rattle.ep_explain.specs.Narrowing.{IsNarrowed}
use Rattle.ep_explain.specs.Tried.{IsShownOfSome}
use Rattle.ep_instance_parts.specs.Instances.{instance_mode, plain_instance}
use Rattle.sat_search.specs.Logs.{IsSound}
use Rattle.ep_explain.proofs.explaining.leave_out_blocks.Given as goal

abbrev pub invariant-loop-turn : goal.invariant-loop-turn
invariant-loop-turn g l = record {
  narrowed : IsNarrowed (instance_mode l.instance) (plain_instance l.instance) l.narrowed;
  spent : g.T.Tries.spent l.tries ≡ false;
  shown : IsShownOfSome (g.T.Tries.shown l.tries (instance_mode l.instance)) (plain_instance l.instance);
  budget : g.T.Tries.budget l.tries ≡ g.T.Tries.budget l.fn.tries;
  sound : IsSound (g.T.Tries.log l.fn.tries).events → IsSound (g.T.Tries.log l.tries).events;
}
