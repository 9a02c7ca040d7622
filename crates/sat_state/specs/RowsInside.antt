-- How the literals of clauses are stored: all in one list.
use Rattle.std.specs.Prelude.{◌-◌, ◌<◌, ◌≤◌, ◌^◌, List, All, length, map, take, drop, min, vec_capacity}
use Rattle.cnf_core.specs.Literal.{Literal}
use Rattle.sat_state.specs.Rowed.{Rowed}
use Rattle.sat_state.specs.declared.rows.Row.{Row}
use Rattle.sat_state.specs.declared.rows.Rows.TheInside.{Inside}

-- the literals from where a clause begins to where it ends
abbrev pub literals_of_row : List Literal → Row → List Literal
literals_of_row literals row = take (row.end - row.start) (drop row.start literals)

abbrev pub seen_rows : Inside → Rowed
seen_rows a = record {
  lists = map (literals_of_row a.lits.items) a.rows.items;
  room = vec_capacity a.rows - length a.rows.items;
  spare = min (vec_capacity a.lits - length a.lits.items) (2 ^ 32 - 1 - length a.lits.items);
}

-- the places of literals fit their words, and no clause ends before it begins, or behind the last literal
pub record AreRows (a : Inside) : Type 0 where
  pub few : length a.lits.items < 2 ^ 32
  pub inside : All (λ r. (r.start ≤ r.end) × (r.end ≤ length a.lits.items)) a.rows.items
