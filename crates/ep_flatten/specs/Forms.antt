-- How constraints speak of terms.
use Rattle.std.specs.Prelude.{◌≡◌, ℕ, ◌<◌, ℤ, List, length, map, Option, Some, option_map, slice_get, slice_index_or}
use Rattle.std.specs.List.{All}
use Rattle.ep_base.specs.Numbers.{compare_holds}
use Rattle.ep_base.specs.Reads.{IsWithinNumbers, weighted_sum}
use Rattle.ep_base.specs.declared.operators.CompareOp.{CompareOp}
use Rattle.ep_ground.specs.Grounds.{LeadsTo}
use Rattle.ep_ground.specs.Nodes.{GroundNode, sum, undefined, coefficients_of, parts_of}
use Rattle.ep_ground.specs.Terms.{node_value, term_value, truth, weighed}

-- A constraint speaks of a term by its node, as a number and parts with coefficients, of which it is the sum, or as whether
-- a sum of such parts compares so with a number.
pub data TermForm : Type 0 where
  own : TermForm
  summed : ℤ → List (ℤ × ℕ) → TermForm
  compared : CompareOp → List (ℤ × ℕ) → ℤ → TermForm

-- the value of a term with this node and this form, where cells have these values and each other term has such a value
unfoldable pub form_value : List ℤ → (ℕ → Option ℤ) → GroundNode → TermForm → Option ℤ
form_value cells value node own = node_value cells value node
form_value cells value node (summed c parts) = node_value cells value (sum c parts)
form_value cells value node (compared op parts c) = truth (option_map (λ ps. compare_holds op (weighted_sum ps) c) (weighed value parts))

-- the terms that are parts of a form
unfoldable pub form_parts : GroundNode → TermForm → List ℕ
form_parts node own = parts_of node
form_parts node (summed c parts) = map (λ p. p.1) parts
form_parts node (compared op parts c) = map (λ p. p.1) parts

-- the coefficients of a form's parts
unfoldable pub form_coefficients : GroundNode → TermForm → List ℤ
form_coefficients node own = coefficients_of node
form_coefficients node (summed c parts) = map (λ p. p.0) parts
form_coefficients node (compared op parts c) = map (λ p. p.0) parts

-- terms have these numbers as their values
abbrev pub AreNumbersOf : (ℕ → Option ℤ) → (ℕ → ℤ) → List ℕ → Type 0
AreNumbersOf value numbers ts = All (λ t. value t ≡ Some (numbers t)) ts

-- The form of a term with this node: it gives the term's value where its parts have values. Its parts stand before the
-- term, which leads to them, and its coefficients are small where the node's are.
pub record IsFormOf (nodes : List GroundNode) (t : ℕ) (node : GroundNode) (form : TermForm) : Type 0 where
  pub value : (cells : List ℤ) (numbers : ℕ → ℤ) → AreNumbersOf (term_value nodes cells) numbers (form_parts node form) → term_value nodes cells t ≡ form_value cells (λ p. Some (numbers p)) node form
  pub before : All (λ p. p < t) (form_parts node form)
  pub leads : All (LeadsTo nodes t) (form_parts node form)
  pub coefficients : All IsWithinNumbers (coefficients_of node) → All IsWithinNumbers (form_coefficients node form)

-- the form of a term among these
abbrev pub form_at : List TermForm → ℕ → TermForm
form_at forms t = slice_index_or forms t own

-- the node of a term among these
abbrev pub node_at : List GroundNode → ℕ → GroundNode
node_at nodes t = slice_index_or nodes t undefined

-- these are the forms of the first terms
pub record HaveForms (nodes : List GroundNode) (count : ℕ) (forms : List TermForm) : Type 0 where
  pub long : length forms ≡ count
  pub each : (t : ℕ) → t < count → IsFormOf nodes t (node_at nodes t) (form_at forms t)

-- a term has this node, and the node's parts stand before it
pub record StandsAt (nodes : List GroundNode) (t : ℕ) (node : GroundNode) : Type 0 where
  pub got : slice_get nodes t ≡ Some node
  pub before : All (λ p. p < t) (parts_of node)

-- behind these forms of the first terms, this is the one of the next term, which has this node
abbrev pub IsNextForm : List TermForm → GroundNode → TermForm → Type 0
IsNextForm forms node form = (nodes : List GroundNode) → HaveForms nodes (length forms) forms → StandsAt nodes (length forms) node → IsFormOf nodes (length forms) node form
