-- What is true of each arena.
use Rattle.std.specs.Prelude.{◌≤◌, List, length}
use Rattle.ep_ground.specs.declared.arena.Arena.TheInside.{Inside}
use Rattle.ep_ground.specs.NodeViews.{plain_nodes}
use Rattle.ep_ground.specs.Nodes.{GroundNode}
use Rattle.ep_ground.specs.Terms.{IsArena}

-- the nodes of an arena, without where their lists lie in memory
abbrev pub nodes_of : Inside → List GroundNode
nodes_of arena = plain_nodes arena.nodes.keys

-- the nodes are those of an arena, and their numbers are terms
pub record IsArenaInside (arena : Inside) : Type 0 where
  pub is_arena : IsArena (plain_nodes arena.nodes.keys)
  pub room : length arena.nodes.keys ≤ 4294967295
