-- What follows from a flat problem.
use Rattle.std.specs.Prelude.{◌≡◌, ◌↔◌, ◌≤◌, ◌++◌, ℤ, IsTrue, List, length}
use Rattle.ep_flat.specs.Cons.{FlatCon, con_holds}
use Rattle.ep_flat.specs.Flats.{FlatState, HasSmallCoefficients, Meets, NamesBelow}

-- two flat problems have the same variables, and the same numbers meet them
pub record MeansTheSame (one other : FlatState) : Type 0 where
  pub vars : other.vars ≡ one.vars
  pub meets : (values : List ℤ) → Meets one values ↔ Meets other values

-- a constraint holds of all numbers that meet a flat problem, and may stand in it
pub record FollowsFrom (flat : FlatState) (con : FlatCon) : Type 0 where
  pub holds : (values : List ℤ) → Meets flat values → IsTrue (con_holds values con)
  pub names : NamesBelow (length flat.vars) con
  pub small : HasSmallCoefficients con

-- at most one constraint stands behind those of a flat problem
pub record GoesOnByOne (old new : FlatState) : Type 0 where
  pub more : List FlatCon
  pub cons : new.cons ≡ (old.cons ++ more)
  pub one : length more ≤ 1
