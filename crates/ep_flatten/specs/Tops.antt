-- Terms that have to be true: which other terms have to be true with one, which terms need variables for it, and what
-- constraints say that it is.
use Rattle.std.specs.Prelude.{◌≡◌, ℕ, ◌<◌, ℤ, pos, Bool, true, false, if◌then◌else◌, IsTrue, List, [], ◌∷◌, Option, Some, map}
use Rattle.std.specs.List.{All}
use Rattle.ep_base.specs.Numbers.{of_bool}
use Rattle.ep_base.specs.Reads.{IsWithinNumbers}
use Rattle.ep_flat.specs.Cons.{FlatCon, FlatKind, con_holds, kind_coefficients, kind_holds, kind_variables}
use Rattle.ep_flat.specs.Flats.{HasSmallCoefficients, NamesBelow}
use Rattle.ep_flatten.specs.Forms.{TermForm, own, summed, compared, form_coefficients, form_parts, form_value}
use Rattle.ep_flatten.specs.Saying.{variable_at, value_under}
use Rattle.ep_ground.specs.Nodes.{GroundNode, compare, lex, member, negation, all_of, any_of, same_truth, all_different, counts, at_least, at_most, table, parts_of}
use Rattle.ep_ground.specs.Terms.{node_value}

-- whether a node is a truth value for which there is a kind of constraint on its parts, other than that all of them are true
unfoldable pub is_test : GroundNode → Bool
is_test (compare op a b) = true
is_test (lex op ts us) = true
is_test (member a ns) = true
is_test (negation a) = true
is_test (any_of ts) = true
is_test (same_truth a b) = true
is_test (all_different ts) = true
is_test (counts ts ns us) = true
is_test (at_least ts cs ns) = true
is_test (at_most ts cs ns) = true
is_test (table ts rows) = true
is_test _ = false

-- whether a node says that all of its parts are true
unfoldable pub is_all : GroundNode → Bool
is_all (all_of ts) = true
is_all _ = false

-- the terms that have to be true where one with this node has to be
unfoldable pub asserts_of : GroundNode → List ℕ
asserts_of (all_of ts) = ts
asserts_of _ = []

-- the terms that need variables where the term t with this node, which is no conjunction, and this form has to be true
unfoldable pub needs_by : ℕ → GroundNode → TermForm → List ℕ
needs_by t node own = if is_test node then parts_of node else t ∷ []
needs_by t node (summed c parts) = t ∷ []
needs_by t node (compared op parts c) = map (λ p. p.1) parts

-- the same for any node
unfoldable pub needs_of : ℕ → GroundNode → TermForm → List ℕ
needs_of t node form = if is_all node then [] else needs_by t node form

-- The kind of constraint holds exactly where the node's value is 1, which is else 0. It names variables of the node's
-- parts alone, and has no great coefficient.
pub record Tells (places : List ℕ) (node : GroundNode) (kind : FlatKind) : Type 0 where
  pub gives : (cells values : List ℤ) → node_value cells (value_under values places) node ≡ Some (of_bool (kind_holds values kind))
  pub names : (bound : ℕ) → All (λ t. variable_at places t < bound) (parts_of node) → All (λ x. x < bound) (kind_variables kind)
  pub coefficients : All IsWithinNumbers (kind_coefficients kind)

-- The same of the value of a term with this node and this form.
pub record TellsForm (places : List ℕ) (node : GroundNode) (form : TermForm) (kind : FlatKind) : Type 0 where
  pub gives : (cells values : List ℤ) → form_value cells (value_under values places) node form ≡ Some (of_bool (kind_holds values kind))
  pub names : (bound : ℕ) → All (λ t. variable_at places t < bound) (form_parts node form) → All (λ x. x < bound) (kind_variables kind)
  pub coefficients : All IsWithinNumbers (form_coefficients node form) → All IsWithinNumbers (kind_coefficients kind)

-- terms have the numbers of their variables as their values
abbrev pub HaveVariables : List ℤ → List ℕ → (ℕ → Option ℤ) → List ℕ → Type 0
HaveVariables values places value ts = All (λ p. value p ≡ value_under values places p) ts

-- where the parts of a form have the numbers of their variables, the term has the form's value
abbrev pub HasFormValue : List ℤ → List ℤ → List ℕ → (ℕ → Option ℤ) → ℕ → GroundNode → TermForm → Type 0
HasFormValue cells values places value t node form = HaveVariables values places value (form_parts node form) → value t ≡ form_value cells (value_under values places) node form

-- The constraint holds exactly where the term t with this node and this form is 1, and names variables of the terms alone
-- that need them for it. Its coefficients are small where the form's are.
pub record Asserts (places : List ℕ) (t : ℕ) (node : GroundNode) (form : TermForm) (con : FlatCon) : Type 0 where
  pub forth : (cells values : List ℤ) (value : ℕ → Option ℤ) → HaveVariables values places value (needs_of t node form) → HasFormValue cells values places value t node form → IsTrue (con_holds values con) → value t ≡ Some (pos 1)
  pub back : (cells values : List ℤ) (value : ℕ → Option ℤ) → HaveVariables values places value (needs_of t node form) → HasFormValue cells values places value t node form → value t ≡ Some (pos 1) → IsTrue (con_holds values con)
  pub names : (bound : ℕ) → All (λ p. variable_at places p < bound) (needs_of t node form) → NamesBelow bound con
  pub small : All IsWithinNumbers (form_coefficients node form) → HasSmallCoefficients con
