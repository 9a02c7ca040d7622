-- The terms of a chain of sums, each with its sign as a coefficient.
use Rattle.std.specs.Prelude.{◌≡◌, ℕ, ◌<◌, ℤ, pos, negsuc, ◌*ℤ◌, Bool, true, false, List, map, option_map, length}
use Rattle.std.specs.List.{All}
use Rattle.ep_ground.specs.Nodes.{GroundNode}
use Rattle.ep_ground.specs.Terms.{term_value}
use Rattle.ep_tree.specs.Environments.{Env}
use Rattle.ep_tree.specs.Evaluation.{term_values}
use Rattle.ep_tree.specs.Trees.{Terms}
use Rattle.ep_unroll.specs.Growing.{Grows}
use Rattle.ep_unroll.specs.Readings.{Numbering, Reading}

-- the coefficient of a term that is added, or taken away
unfoldable pub sign_number : Bool → ℤ
sign_number true = pos 1
sign_number false = negsuc 0

-- Terms with coefficients have the numbers of the terms of a chain, one for each.
pub record AreSigned (n : Numbering) (cells : Env) (old new : List GroundNode) (terms : Terms) (ps : List (ℤ × ℕ)) : Type 0 where
  pub grows : Grows old new
  pub known : All (λ part. part.1 < length new) ps
  pub numbers : (r : Reading n cells)
      → map (λ part. option_map (λ x. part.0 *ℤ x) (term_value new r.numbers part.1)) ps
      ≡ term_values n.mode r.values terms
