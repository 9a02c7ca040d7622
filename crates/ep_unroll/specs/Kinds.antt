-- Kinds of expressions that a function takes.
use Rattle.std.specs.Prelude.{◌≡◌}
use Rattle.ep_base.specs.declared.names.Name.{Name}
use Rattle.ep_tree.specs.declared.syntax.Kind.{Kind, Named}

-- a name
abbrev pub IsName : Kind → Type 0
IsName k = (name : Name) × (k ≡ Named name)
