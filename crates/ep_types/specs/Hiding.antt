-- Names that hide others until they are shown again.
use Rattle.std.specs.Borrow.{Bor}
use Rattle.std.specs.Prelude.{◌≡◌, ℕ, List, ◌++◌}
use Rattle.ep_types.specs.declared.names.Meaning.{Meaning}
use Rattle.ep_types.specs.declared.names.Names.{Names}

-- more names by the same table, which hide what they stood for
pub record Hides (old new : Names) : Type 0 where
  pub extra : List (Bor (List ℕ) × Meaning)
  pub inner : new.inner.items ≡ old.inner.items ++ extra
  pub declared : new.declared ≡ old.declared
