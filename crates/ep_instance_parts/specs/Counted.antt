-- Nodes that are counted as they are met.
use Rattle.std.specs.Prelude.{◌≡◌, ℕ, ◌+◌, List, []}
use Rattle.ep_tree.specs.Limits.{limits_of_values}
use Rattle.ep_tree.specs.Measures.{Met, size_of}
use Rattle.ep_tree.specs.declared.values.Mode.{Mode}

-- Behind so many nodes some more are met, which pass no limit: by their end there are so many.
pub record IsCounted (mode : Mode) (before : ℕ) (ms : List Met) (after : ℕ) : Type 0 where
  pub within : limits_of_values mode before ms ≡ []
  pub counted : after ≡ before + size_of ms
