-- Matrices that have a value only where some terms have numbers.
use Rattle.std.specs.Prelude.{◌≡◌, ℕ, ◌+◌, List, ◌∷◌, ℤ, Option, option_and_then, length}
use Rattle.ep_ground.specs.Nodes.{GroundNode}
use Rattle.ep_tree.specs.Solutions.{cell_count}
use Rattle.ep_tree.specs.Values.{ValueTree}
use Rattle.ep_unroll.specs.Growing.{Grows}
use Rattle.ep_unroll.specs.Meanings.{AreTerms, worth}
use Rattle.ep_unroll.specs.PartLists.{HaveTerms, worths}
use Rattle.ep_unroll.specs.PartReads.{numbers_of_terms}
use Rattle.ep_unroll.specs.Readings.{cells_value, each_from}
use Rattle.ep_unroll.specs.declared.unrolled.Unrolled.{Unrolled}

-- What was unrolled has a value where some terms have numbers, and else none.
pub record IsWholeOf (old new : List GroundNode) (others : List ℕ) (seen : List ℤ → Option ValueTree) (x : Unrolled) : Type 0 where
  pub grows : Grows old new
  pub known : AreTerms (length new) x
  pub value : (numbers : List ℤ) → worth new numbers x ≡ option_and_then (λ js. seen numbers) (numbers_of_terms old numbers others)

-- The parts of a block of cells but for its first part, in whose place another stands.
pub record AreCellsBehind (first : Unrolled) (cell : ℕ) (own : List ℤ) (inner : List (List ℤ)) (xs : List Unrolled) : Type 0 where
  pub index : ℤ
  pub later : List ℤ
  pub cut : own ≡ index ∷ later
  pub worths : (nodes : List GroundNode) (numbers : List ℤ)
      → worths nodes numbers xs ≡ worth nodes numbers first ∷ each_from (cells_value numbers inner) (cell_count inner) (cell + cell_count inner) later
  pub terms : (count : ℕ) → AreTerms count first → HaveTerms count xs
