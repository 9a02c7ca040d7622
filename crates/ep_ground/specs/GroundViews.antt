-- The code's grounds, without where their lists lie in memory.
use Rattle.ep_ground.specs.declared.grounds.Ground.{Ground}
use Rattle.ep_ground.specs.Grounds.{GroundState}

-- a ground with plain lists in place of the vectors
abbrev pub plain_ground : Ground → GroundState
plain_ground g = record {
  nodes = g.arena;
  cells = g.cells.items;
  clauses = g.clauses.items;
  objective = g.objective;
}
