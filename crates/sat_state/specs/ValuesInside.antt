-- How the values of the variables are kept beside the table of true literals.
use Rattle.std.specs.Prelude.{◌≡◌, ◌+◌, ◌*◌, ◌^◌, ◌<◌, ◌≤◌, Bool, false, List, length, slice_index_or}
use Rattle.cnf_core.specs.Literal.{Literal, is_among, code_of}
use Rattle.sat_state.specs.Trail.{literals}
use Rattle.sat_state.specs.Assigned.{TrailState}
use Rattle.sat_state.specs.declared.values.Values.TheInside.{Inside}

abbrev pub seen_values : Inside → TrailState
seen_values a = a.assigned

-- the table has whether each literal is true
abbrev pub AreTruths : List Bool → List Literal → Type 0
AreTruths truths trues = (l : Literal) → slice_index_or truths (code_of l) false ≡ is_among trues l

-- the table is that of the trail, and has each literal of a variable that is known, which fits its word
pub record AreValues (a : Inside) : Type 0 where
  pub truths : AreTruths a.truths.items (literals a.assigned.trail)
  pub few : a.assigned.vars < 2 ^ 31
  pub room : 0 < a.assigned.vars → 2 * a.assigned.vars + 2 ≤ length a.truths.items
