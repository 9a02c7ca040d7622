-- What it is to take a node into an arena.
use Rattle.std.specs.Prelude.{◌≡◌, ◌⊎◌, List, [], ◌∷◌, ◌++◌}
use Rattle.std.specs.List.{Contains}
use Rattle.ep_ground.specs.Nodes.{GroundNode}

-- an arena stays as it is where the node is there, and else has it at the end
abbrev pub Interned : List GroundNode → GroundNode → List GroundNode → Type 0
Interned old node new =
    (Contains old node × (new ≡ old)) ⊎ ((Contains old node → ⊥) × (new ≡ old ++ node ∷ []))
