-- Layouts: the literals of many variables, when they are those of a formula, and what it is to go on from one.
use Rattle.std.specs.Prelude.{◌≡◌, ℕ, ◌≤◌, ℤ, Bool, IsTrue, List, [], ◌∷◌, ◌++◌, length, map, take, slice_index_or, Option}
use Rattle.std.specs.List.{All, Contains}
use Rattle.ep_base.specs.Reads.{IsWithinNumbers}
use Rattle.cnf_core.specs.Clauses.{Satisfies}
use Rattle.cnf_core.specs.Formula.{Cnf, Extends}
use Rattle.cnf_core.specs.Literal.{Literal}
use Rattle.cnf_core.specs.Steps.{IsConsistent}
use Rattle.ep_flat.specs.Cons.{FlatCon, con_holds, con_variables}
use Rattle.ep_flat.specs.Flats.{FlatState, HasSmallCoefficients, MapState, Meets, NamesBelow, cell_numbers, objective_number}
use Rattle.enc_var.specs.Decoding.{VariableLiterals, HasLiteralsUpTo, Means, decoded, yes}

-- the literals of a variable; of one that isn't there, those of a variable without a value
abbrev pub literals_at : List VariableLiterals → ℕ → VariableLiterals
literals_at layout x = slice_index_or layout x (record { domain = []; first = 0 })

-- the values that an assignment gives the variables
unfoldable pub decoded_values : List VariableLiterals → (ℕ → Bool) → List ℤ
decoded_values layout s = map (decoded s) layout

-- The literals of a layout are over variables of a formula, and under each assignment that satisfies the formula they
-- mean what they say.
pub record IsLayoutOf (layout : List VariableLiterals) (f : Cnf) : Type 0 where
  pub literals : All (HasLiteralsUpTo f.vars) layout
  pub meaning : (s : ℕ → Bool) → Satisfies s f.clauses → All (Means s) layout

-- A formula and its layout go on from others: variables and clauses were added, none of them with a literal together with
-- its negation, and what the layout said it says still.
pub record GoesOn (layout : List VariableLiterals) (f : Cnf) (new_layout : List VariableLiterals) (g : Cnf) : Type 0 where
  pub from_new : IsTrue g.from_new
  pub is_layout : IsLayoutOf new_layout g
  pub earlier : take (length layout) new_layout ≡ layout
  pub variables : f.vars ≤ g.vars
  pub added : List (List Literal)
  pub clauses : g.clauses ≡ f.clauses ++ added
  pub consistent : All IsConsistent added

-- A formula with one more variable goes on from another: each assignment that satisfied it can be continued so that the
-- variable has any of its values, and the literal of a single value stands alone in a clause.
pub record HasFreeChoice (f : Cnf) (e : VariableLiterals) (g : Cnf) : Type 0 where
  pub choice : (s : ℕ → Bool) (v : ℤ) → Satisfies s f.clauses → Contains e.domain v
      → (far : Extends f.vars s g) × (decoded far.values e ≡ v)
  pub fixed : length e.domain ≡ 1 → Contains g.clauses (yes e.first ∷ [])

-- a constraint holds of the values that an assignment gives the variables
abbrev pub HoldsUnder : List VariableLiterals → FlatCon → (ℕ → Bool) → Type 0
HoldsUnder layout con s = IsTrue (con_holds (decoded_values layout s) con)

-- A constraint can be encoded: the formula can grow, the layout is its own, the constraint names variables of the layout,
-- and their values and its coefficients are small enough.
pub record CanTake (layout : List VariableLiterals) (f : Cnf) (con : FlatCon) : Type 0 where
  pub from_new : IsTrue f.from_new
  pub is_layout : IsLayoutOf layout f
  pub names : NamesBelow (length layout) con
  pub numbers : All (λ x. All IsWithinNumbers (literals_at layout x).domain) (con_variables con)
  pub coefficients : HasSmallCoefficients con

-- the first variables of a layout have these values under an assignment that satisfies the formula
pub record IsDecoded (layout : List VariableLiterals) (f : Cnf) (count : ℕ) (values : List ℤ) : Type 0 where
  pub assignment : ℕ → Bool
  pub satisfies : Satisfies assignment f.clauses
  pub values_are : take count (decoded_values layout assignment) ≡ values

-- The assignments that satisfy a formula decode to exactly the numbers that meet a flat problem, whose variables are the
-- first ones of the layout.
pub record IsEncoding (flat : FlatState) (layout : List VariableLiterals) (f : Cnf) : Type 0 where
  pub from_new : IsTrue f.from_new
  pub is_layout : IsLayoutOf layout f
  pub domains : take (length flat.vars) (map (λ e. e.domain) layout) ≡ flat.vars
  pub consistent : All IsConsistent f.clauses
  pub sound : (s : ℕ → Bool) → Satisfies s f.clauses → Meets flat (take (length flat.vars) (decoded_values layout s))
  pub complete : (values : List ℤ) → Meets flat values → IsDecoded layout f (length flat.vars) values

-- the numbers that an assignment gives the cells
abbrev pub decoded_cells : List VariableLiterals → MapState → (ℕ → Bool) → List ℤ
decoded_cells layout m s = cell_numbers m (decoded_values layout s)

-- an assignment that satisfies clauses gives the cells these numbers
pub record AreGiven (layout : List VariableLiterals) (m : MapState) (clauses : List (List Literal)) (cells : List ℤ) : Type 0 where
  pub assignment : ℕ → Bool
  pub satisfies : Satisfies assignment clauses
  pub gives : decoded_cells layout m assignment ≡ cells

-- An assignment that satisfies clauses gives the cells these numbers, and the objective, where there is one, this number.
pub record GivesCells (layout : List VariableLiterals) (m : MapState) (clauses : List (List Literal)) (cells : List ℤ) (goal : Option ℤ) : Type 0 where
  pub are_given : AreGiven layout m clauses cells
  pub drives : objective_number m (decoded_values layout are_given.assignment) ≡ goal
