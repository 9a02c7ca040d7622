-- Flat problems: variables with domains and constraints on them, and which numbers of the variables meet them.
use Rattle.std.specs.Prelude.{◌≡◌, [], map, MatchOption, slice_index_or, ℕ, ◌<◌, ℤ, option_map, IsTrue, List, length, Option}
use Rattle.std.specs.List.{All, AllZip, Contains}
use Rattle.ep_base.specs.Reads.{IsWithinNumbers}
use Rattle.ep_base.specs.declared.operators.Sense.{Sense}
use Rattle.ep_flat.specs.Cons.{FlatCon, con_holds, con_variables, kind_coefficients, number_at, numbers_of_vars}

-- the domains of variables, and the constraints on them
pub record FlatState : Type 0 where
  pub vars : List (List ℤ)
  pub cons : List FlatCon

-- the variable of each cell, and that of the objective where there is one
pub record MapState : Type 0 where
  pub cells : List ℕ
  pub objective : Option (Sense × ℕ)

-- Numbers of the variables that meet a flat problem: each is of its variable's domain, and each constraint holds.
pub record Meets (flat : FlatState) (values : List ℤ) : Type 0 where
  pub domains : AllZip Contains flat.vars values
  pub cons : All (λ con. IsTrue (con_holds values con)) flat.cons

-- the numbers that the cells have where the variables have these
abbrev pub cell_numbers : MapState → List ℤ → List ℤ
cell_numbers m values = numbers_of_vars values m.cells

-- the number of the objective's variable, where there is one
unfoldable pub objective_number : MapState → List ℤ → Option ℤ
objective_number m values = option_map (λ goal. number_at values goal.1) m.objective

-- Variables stand for cells with these values, each for one: they are there, and the domain of each is its cell's values.
pub record StandForCells (values : List (List ℤ)) (vars : List (List ℤ)) (variables : List ℕ) : Type 0 where
  pub there : All (λ x. x < length vars) variables
  pub domains : map (λ x. slice_index_or vars x []) variables ≡ values

-- A map names for each cell a variable that stands for it, and one for the objective, where there is one.
pub record MapsCells (values : List (List ℤ)) (vars : List (List ℤ)) (m : MapState) : Type 0 where
  pub cells : StandForCells values vars m.cells
  pub objective : MatchOption m.objective (Unit {0}) (λ goal. goal.1 < length vars)

-- A map names variables for cells with these values, and one for the objective, which is driven this way, where there is one.
pub record IsMapOf (values : List (List ℤ)) (sense : Option Sense) (vars : List (List ℤ)) (m : MapState) : Type 0 where
  pub maps : MapsCells values vars m
  pub senses : option_map (λ goal. goal.0) m.objective ≡ sense

-- each variable that a constraint names is one of so many
abbrev pub NamesBelow : ℕ → FlatCon → Type 0
NamesBelow vars con = All (λ x. x < vars) (con_variables con)

-- each coefficient of a constraint lies within the numbers that the stages compute with
abbrev pub HasSmallCoefficients : FlatCon → Type 0
HasSmallCoefficients con = All IsWithinNumbers (kind_coefficients con.kind)

-- each number of these domains lies within the numbers that the stages compute with
abbrev pub HaveSmallNumbers : List (List ℤ) → Type 0
HaveSmallNumbers domains = All (λ domain. All IsWithinNumbers domain) domains

-- each constraint names variables of the flat problem alone, and all numbers and coefficients are small enough
pub record IsSoundFlat (flat : FlatState) : Type 0 where
  pub names : All (NamesBelow (length flat.vars)) flat.cons
  pub numbers : HaveSmallNumbers flat.vars
  pub coefficients : All HasSmallCoefficients flat.cons
