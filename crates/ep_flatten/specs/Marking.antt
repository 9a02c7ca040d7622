-- Marking terms.
use Rattle.std.specs.Prelude.{◌≡◌, ℕ, ◌≤◌, Bool, true, List, length, Some, fold, slice_get, slice_set}
use Rattle.std.specs.List.{All}
use Rattle.ep_flatten.specs.Building.{IsForced, IsMarked, goal_terms}
use Rattle.ep_flatten.specs.Forms.{TermForm, form_at, form_parts}
use Rattle.ep_flatten.specs.Tops.{asserts_of, needs_of}
use Rattle.ep_ground.specs.Grounds.{GroundState, IsTermReached}
use Rattle.ep_ground.specs.Nodes.{GroundNode}

-- marks with those of these terms
unfoldable pub marked : List Bool → List ℕ → List Bool
marked marks terms = fold (λ before t. slice_set before t true) marks terms

-- What is known of marks on the way from the last term to the first: of the asserted terms from j on, and of the marked
-- ones from k on, those that they lead to are asserted and marked too.
pub record AreMarksFrom (g : GroundState) (forms : List TermForm) (j k : ℕ) (asserted marks : List Bool) : Type 0 where
  pub asserted_long : length asserted ≡ length g.nodes
  pub long : length marks ≡ length g.nodes
  pub clauses : All (IsMarked asserted) g.clauses
  pub goal : All (IsMarked marks) (goal_terms g)
  pub wholes : (t : ℕ) (node : GroundNode) → j ≤ t → slice_get g.nodes t ≡ Some node → IsMarked asserted t → All (IsMarked asserted) (asserts_of node)
  pub tops : (t : ℕ) (node : GroundNode) → j ≤ t → slice_get g.nodes t ≡ Some node → IsMarked asserted t → All (IsMarked marks) (needs_of t node (form_at forms t))
  pub closed : (t : ℕ) (node : GroundNode) → k ≤ t → slice_get g.nodes t ≡ Some node → IsMarked marks t → All (IsMarked marks) (form_parts node (form_at forms t))
  pub forced : (t : ℕ) → IsMarked asserted t → IsForced g t
  pub above : (t : ℕ) → IsMarked asserted t → IsTermReached g t
  pub reached : (t : ℕ) → IsMarked marks t → IsTermReached g t
