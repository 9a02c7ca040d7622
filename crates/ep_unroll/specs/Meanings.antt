-- What terms, and matrices of terms, say of expressions. Each record tells as well that the old nodes stay, with others
-- behind them.
use Rattle.std.specs.Prelude.{◌≡◌, ℕ, ◌<◌, List, [], ◌∷◌, map, ℤ, Option, option_map, length}
use Rattle.std.specs.List.{All}
use Rattle.ep_base.specs.declared.names.Name.{Name}
use Rattle.ep_base.specs.declared.places.Place.{Place}
use Rattle.ep_ground.specs.Nodes.{GroundNode}
use Rattle.ep_ground.specs.Terms.{term_value}
use Rattle.ep_tree.specs.Environments.{Env}
use Rattle.ep_tree.specs.Evaluation.{evaluate, number_in, values_of}
use Rattle.ep_tree.specs.Trees.{ExprTree, ExprTrees}
use Rattle.ep_tree.specs.Values.{ValueTree, all_defined, as_parts, matrix, single}
use Rattle.ep_eval.specs.Helds.{seen_held}
use Rattle.ep_eval.specs.Instances.{instance_value}
use Rattle.ep_forms.specs.declared.forms.Quantifier.{Quantifier}
use Rattle.ep_unroll.specs.Growing.{Grows}
use Rattle.ep_unroll.specs.Readings.{Numbering, Reading, cells_value}
use Rattle.ep_unroll.specs.declared.unrolled.Unrolled.{Unrolled, Number, Cells, Fixed, Matrix', Row_of-Unrolled, end_of-Unrolled, more_of-Unrolled}

unfoldable mutual
  -- the value of what was unrolled, where the cells have these numbers
  pub worth : List GroundNode → List ℤ → Unrolled → Option ValueTree
  worth nodes numbers (Number t) = option_map single (term_value nodes numbers t)
  worth nodes numbers (Cells k indices) = cells_value numbers indices.now k
  worth nodes numbers (Fixed seen) = seen_held seen
  worth nodes numbers (Matrix' indices _ parts) =
      option_map (λ vs. matrix indices.items (as_parts vs)) (all_defined (row_worths nodes numbers parts))

  -- the values of a row of parts
  pub row_worths : {m : _} → List GroundNode → List ℤ → Row_of-Unrolled m → List (Option ValueTree)
  row_worths nodes numbers end_of-Unrolled = []
  row_worths nodes numbers (more_of-Unrolled x rest) = worth nodes numbers x ∷ row_worths nodes numbers rest

unfoldable mutual
  -- each term of what was unrolled has a node
  pub AreTerms : ℕ → Unrolled → Type 0
  AreTerms count (Number t) = t < count
  AreTerms count (Cells k indices) = Unit {0}
  AreTerms count (Fixed seen) = Unit {0}
  AreTerms count (Matrix' indices _ parts) = RowHasTerms count parts

  -- the same of a row of parts
  pub RowHasTerms : {m : _} → ℕ → Row_of-Unrolled m → Type 0
  RowHasTerms count end_of-Unrolled = Unit {0}
  RowHasTerms count (more_of-Unrolled x rest) = AreTerms count x × RowHasTerms count rest

-- What was unrolled has the value of an expression, whatever values decision variables have.
pub record Means (n : Numbering) (cells : Env) (old new : List GroundNode) (e : ExprTree) (x : Unrolled) : Type 0 where
  pub grows : Grows old new
  pub known : AreTerms (length new) x
  pub value : (r : Reading n cells) → worth new r.numbers x ≡ evaluate n.mode r.values e

-- A term has the value of an expression, which is a number where it has one.
pub record IsTermOf (n : Numbering) (cells : Env) (old new : List GroundNode) (e : ExprTree) (t : ℕ) : Type 0 where
  pub grows : Grows old new
  pub known : t < length new
  pub value : (r : Reading n cells) → evaluate n.mode r.values e ≡ option_map single (term_value new r.numbers t)

-- A term has the number of an expression, and no value where the expression has no number.
pub record IsNumberOf (n : Numbering) (cells : Env) (old new : List GroundNode) (e : ExprTree) (t : ℕ) : Type 0 where
  pub grows : Grows old new
  pub known : t < length new
  pub number : (r : Reading n cells) → term_value new r.numbers t ≡ number_in (evaluate n.mode r.values e)

-- Terms have the numbers of expressions, one for each.
pub record AreNumbersOf (n : Numbering) (cells : Env) (old new : List GroundNode) (es : ExprTrees) (ts : List ℕ) : Type 0 where
  pub grows : Grows old new
  pub known : All (λ t. t < length new) ts
  pub numbers : (r : Reading n cells)
      → map (term_value new r.numbers) ts ≡ map number_in (values_of n.mode r.values es)

-- Terms have the numbers of the instances of a quantifier, one for each number of its domain.
pub record AreInstancesOf (n : Numbering) (cells : Env) (old new : List GroundNode) (p : Place) (q : Quantifier) (name : Name) (rest : List Name) (ns : List ℤ) (ts : List ℕ) : Type 0 where
  pub grows : Grows old new
  pub known : All (λ t. t < length new) ts
  pub numbers : (r : Reading n cells)
      → map (term_value new r.numbers) ts
      ≡ map (λ k. number_in (instance_value n.mode r.values p q name rest k)) ns
