-- What contracts see of a log, and what is true of each.
use Rattle.std.specs.Prelude.{◌≡◌, All, map}
use Rattle.cnf_core.specs.declared.log.Log.TheInside.{Inside}
use Rattle.cnf_core.specs.Literal.{IsClause}
use Rattle.cnf_core.specs.Events.{LogState, plain_note, clauses_of, nonempty_steps, HasBase, HintsAreEarlier}

abbrev pub state_of : Inside → LogState
state_of l = record { events = l.events; notes = map plain_note l.notes.items; base = l.base }

-- the steps with a literal are counted, each event has a clause, each hint is the position of an earlier event, and the first events
-- are givens
pub record IsLog (l : Inside) : Type 0 where
  pub counted : l.steps ≡ nonempty_steps l.events
  pub clauses : All IsClause (clauses_of l.events)
  pub hints : HintsAreEarlier l.events
  pub first : HasBase l.events l.base
