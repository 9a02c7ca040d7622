-- The nodes of a ground: numbers, cells, and operations on terms. A term is the number of a node.
use Rattle.std.specs.Prelude.{ℕ, ℤ, Bool, true, false, List, [], ◌∷◌, ◌++◌, map}
use Rattle.ep_base.specs.declared.operators.CompareOp.{CompareOp}
use Rattle.ep_base.specs.declared.operators.LexOp.{LexOp}

-- A node. Its numbers are terms, but for the number of a cell and the exponent of a power. The parts of a sum have
-- coefficients, and a sum has a constant. A `pick` has parts, their keys and indices. A `lex` has two lists of terms.
-- `counts` has terms, numbers and how often each of them stands among the terms; `at_least` and `at_most` have terms,
-- how often at least or at most, and numbers.
pub data GroundNode : Type 0 where
  constant : ℤ → GroundNode
  undefined : GroundNode
  cell : ℕ → GroundNode
  sum : ℤ → List (ℤ × ℕ) → GroundNode
  product : ℕ → ℕ → GroundNode
  quotient : ℕ → ℕ → GroundNode
  remainder : ℕ → ℕ → GroundNode
  power : ℕ → ℕ → GroundNode
  absolute : ℕ → GroundNode
  least : List ℕ → GroundNode
  greatest : List ℕ → GroundNode
  pick : List ℕ → List (List ℤ) → List ℕ → GroundNode
  whole : ℕ → List ℕ → GroundNode
  safe_quotient : ℕ → ℕ → GroundNode
  safe_remainder : ℕ → ℕ → GroundNode
  safe_pick : List ℕ → List (List ℤ) → List ℕ → GroundNode
  compare : CompareOp → ℕ → ℕ → GroundNode
  lex : LexOp → List ℕ → List ℕ → GroundNode
  member : ℕ → List ℤ → GroundNode
  negation : ℕ → GroundNode
  all_of : List ℕ → GroundNode
  any_of : List ℕ → GroundNode
  same_truth : ℕ → ℕ → GroundNode
  all_different : List ℕ → GroundNode
  counts : List ℕ → List ℤ → List ℕ → GroundNode
  at_least : List ℕ → List ℤ → List ℤ → GroundNode
  at_most : List ℕ → List ℤ → List ℤ → GroundNode
  table : List ℕ → List (List ℤ) → GroundNode

-- the terms that are parts of a node, in order
unfoldable pub parts_of : GroundNode → List ℕ
parts_of (constant n) = []
parts_of undefined = []
parts_of (cell k) = []
parts_of (sum c parts) = map (λ p. p.1) parts
parts_of (product a b) = a ∷ b ∷ []
parts_of (quotient a b) = a ∷ b ∷ []
parts_of (remainder a b) = a ∷ b ∷ []
parts_of (power a n) = a ∷ []
parts_of (absolute a) = a ∷ []
parts_of (least ts) = ts
parts_of (greatest ts) = ts
parts_of (pick ts keys indices) = ts ++ indices
parts_of (whole a ts) = a ∷ ts
parts_of (safe_quotient a b) = a ∷ b ∷ []
parts_of (safe_remainder a b) = a ∷ b ∷ []
parts_of (safe_pick ts keys indices) = ts ++ indices
parts_of (compare op a b) = a ∷ b ∷ []
parts_of (lex op ts us) = ts ++ us
parts_of (member a ns) = a ∷ []
parts_of (negation a) = a ∷ []
parts_of (all_of ts) = ts
parts_of (any_of ts) = ts
parts_of (same_truth a b) = a ∷ b ∷ []
parts_of (all_different ts) = ts
parts_of (counts ts ns us) = ts ++ us
parts_of (at_least ts cs ns) = ts
parts_of (at_most ts cs ns) = ts
parts_of (table ts rows) = ts

-- A partial node: one without a value, a quotient, a remainder or a read, which may lack a value though each part has one, or a
-- whole, which has its other parts only so that it lacks a value where they do.
unfoldable pub is_partial : GroundNode → Bool
is_partial undefined = true
is_partial (quotient a b) = true
is_partial (remainder a b) = true
is_partial (pick ts keys indices) = true
is_partial (whole a ts) = true
is_partial _ = false

-- the coefficients of a sum's parts
unfoldable pub coefficients_of : GroundNode → List ℤ
coefficients_of (sum c parts) = map (λ p. p.0) parts
coefficients_of _ = []
