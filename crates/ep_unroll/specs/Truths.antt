-- The terms of truth values in both modes.
use Rattle.std.specs.Prelude.{ℕ, List, [], ◌∷◌}
use Rattle.ep_base.specs.declared.operators.CompareOp.{CompareOp}
use Rattle.ep_ground.specs.Nodes.{GroundNode, compare}
use Rattle.ep_tree.specs.declared.values.Mode.{Mode}
use Rattle.ep_unroll.specs.Growing.{Puts}
use Rattle.ep_unroll.specs.Needs.{ArePartial}
use Rattle.ep_unroll.specs.PartReads.{IsWhole}

-- the parts without which a truth value has none: none of them in the relational mode, where it is false without them
unfoldable pub needed_in : Mode → List ℕ → List ℕ
needed_in Mode.Relational ts = []
needed_in Mode.Strict ts = ts

-- A term has the value of a node that was taken in, where some others have values too.
pub record IsJudged (old new : List GroundNode) (node : GroundNode) (others : List ℕ) (t : ℕ) : Type 0 where
  pub between : List GroundNode
  pub own : ℕ
  pub puts : Puts old between node own
  pub whole : IsWhole between new others own t

-- A term compares two numbers; it has a value where those of them have one that a truth value needs.
pub record IsComparison (mode : Mode) (count : ℕ) (old new : List GroundNode) (op : CompareOp) (a b t : ℕ) : Type 0 where
  pub others : List ℕ
  pub needed : ArePartial old count (needed_in mode (a ∷ b ∷ [])) others
  pub judged : IsJudged old new (compare op a b) others t
