-- Equalities of a term with others.
use Rattle.std.specs.Prelude.{◌≡◌, ℕ, ◌<◌, List, map, ℤ, Some, length}
use Rattle.std.specs.List.{All}
use Rattle.ep_base.specs.Numbers.{compare_holds}
use Rattle.ep_base.specs.Options.{on_both}
use Rattle.ep_base.specs.declared.operators.CompareOp.{CompareOp}
use Rattle.ep_ground.specs.Nodes.{GroundNode}
use Rattle.ep_ground.specs.Terms.{term_value, truth}
use Rattle.ep_unroll.specs.Growing.{Grows}

-- Terms are 1 where a term and the others are equal, one for each, and else 0.
pub record AreEqualities (old new : List GroundNode) (a : ℕ) (ts us : List ℕ) : Type 0 where
  pub grows : Grows old new
  pub known : All (λ t. t < length new) us
  pub values : (numbers : List ℤ)
      → map (term_value new numbers) us
      ≡ map (λ t. truth (on_both (term_value old numbers a) (term_value old numbers t) (λ x y. Some (compare_holds CompareOp.Equal x y)))) ts
