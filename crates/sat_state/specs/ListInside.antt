-- How the clauses that watch a literal are kept.
use Rattle.std.specs.Prelude.{◌≤◌, length, vec_capacity}
use Rattle.sat_state.specs.Listed.{Listed}
use Rattle.sat_state.specs.declared.list.List.TheInside.{Inside}

abbrev pub seen_list : Inside → Listed
seen_list a = record { watches = a.watches.items; nears = a.nears; room = a.room }

-- near ones are some of them, and there is the room that is promised
pub record IsList (a : Inside) : Type 0 where
  pub nears : a.nears ≤ length a.watches.items
  pub room : length a.watches.items ≤ a.room
  pub reserved : a.room ≤ vec_capacity a.watches
