-- How a state is kept.
use Rattle.std.specs.Prelude.{nat_eq, ◌&&◌, length}
use Rattle.sat_state.specs.declared.state.State.TheInside.{Inside}
use Rattle.sat_state.specs.View.{StateView}
use Rattle.sat_state.specs.Joined.{AreJoined}

abbrev pub seen_state : Inside → StateView
seen_state a = record {
  clauses = a.parts.clauses.lists;
  vars = a.parts.assigned.vars;
  trail = a.parts.assigned.trail;
  seen = nat_eq a.parts.queue.checked (length a.parts.clauses.lists) && nat_eq a.parts.queue.head (length a.parts.assigned.trail)
      && nat_eq a.parts.queue.far (length a.parts.assigned.trail);
}

-- the parts of a state go together
abbrev pub IsState : Inside → Type 0
IsState a = AreJoined a.parts
