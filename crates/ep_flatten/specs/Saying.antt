-- What a flat constraint says of the variable of a node.
use Rattle.std.specs.Prelude.{Bool, true, false, ◌≡◌, ℕ, ◌<◌, ℤ, List, Option, Some, slice_index_or, length}
use Rattle.std.specs.List.{All}
use Rattle.std.specs.Ordering.{int_eq}
use Rattle.ep_base.specs.Reads.{IsWithinNumbers}
use Rattle.ep_flat.specs.Cons.{FlatCon, con_holds, number_at}
use Rattle.ep_flat.specs.Flats.{HasSmallCoefficients, NamesBelow}
use Rattle.ep_flatten.specs.Forms.{TermForm, form_coefficients, form_parts, form_value}
use Rattle.ep_ground.specs.Nodes.{GroundNode, constant, undefined, cell, quotient, remainder, pick, whole, least, greatest, coefficients_of, parts_of}
use Rattle.ep_ground.specs.Terms.{node_value}

-- the variable of a term, and 0 of one that has none
abbrev pub variable_at : List ℕ → ℕ → ℕ
variable_at places t = slice_index_or places t 0

-- what a term has as its value, where the variables have these numbers
unfoldable pub value_under : List ℤ → List ℕ → ℕ → Option ℤ
value_under values places t = Some (number_at values (variable_at places t))

-- a least or greatest part is one of some
unfoldable pub HasParts : GroundNode → Type 0
HasParts (least ts) = 0 < length ts
HasParts (greatest ts) = 0 < length ts
HasParts _ = Unit {0}

-- whether a node is an operation that has a value, whatever values its parts have
unfoldable pub is_operation : GroundNode → Bool
is_operation (constant n) = false
is_operation undefined = false
is_operation (cell k) = false
is_operation (quotient a b) = false
is_operation (remainder a b) = false
is_operation (pick ts keys indices) = false
is_operation (whole a ts) = false
is_operation _ = true

-- The constraint holds exactly where the variable r has the node's value. It names that variable and those of the node's
-- parts, and its coefficients are no greater than the node's.
pub record SaysOfNode (places : List ℕ) (node : GroundNode) (r : ℕ) (con : FlatCon) : Type 0 where
  pub value : List ℤ → ℤ
  pub gives : (cells values : List ℤ) → node_value cells (value_under values places) node ≡ Some (value values)
  pub says : (values : List ℤ) → con_holds values con ≡ int_eq (number_at values r) (value values)
  pub names : (bound : ℕ) → r < bound → All (λ t. variable_at places t < bound) (parts_of node) → NamesBelow bound con
  pub coefficients : All IsWithinNumbers (coefficients_of node) → HasSmallCoefficients con

-- The same of the value of a term with this node and this form.
pub record SaysForm (places : List ℕ) (node : GroundNode) (form : TermForm) (r : ℕ) (con : FlatCon) : Type 0 where
  pub value : List ℤ → ℤ
  pub gives : (cells values : List ℤ) → form_value cells (value_under values places) node form ≡ Some (value values)
  pub says : (values : List ℤ) → con_holds values con ≡ int_eq (number_at values r) (value values)
  pub names : (bound : ℕ) → r < bound → All (λ t. variable_at places t < bound) (form_parts node form) → NamesBelow bound con
  pub coefficients : All IsWithinNumbers (form_coefficients node form) → HasSmallCoefficients con
