-- The values of the variables, apart from the clauses.
use Rattle.std.specs.Prelude.{ℕ, List, Option}
use Rattle.sat_state.specs.Trail.{Entry}

-- the greatest variable that is known, and the trail
pub record TrailState : Type 0 where
  pub vars : ℕ
  pub trail : List Entry

-- the level and the reason of a variable that has a value
pub record Origin : Type 0 where
  pub level : ℕ
  pub reason : Option ℕ
