-- How clauses are stored.
use Rattle.sat_state.specs.declared.clauses.Clauses.TheInside.{Inside}
use Rattle.sat_state.specs.Stored.{Stored}

abbrev pub seen_clauses : Inside → Stored
seen_clauses a = record { lists = a.rows.lists; room = a.rows.room; spare = a.rows.spare }
