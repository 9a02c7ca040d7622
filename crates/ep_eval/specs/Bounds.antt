-- What the code keeps of a name, as the definitions have it.
use Rattle.std.specs.Prelude.{Some, None, Option}
use Rattle.ep_tree.specs.Environments.{Bound, has_cells, has_domain, has_value}
use Rattle.ep_tree.specs.Views.{value_tree}
use Rattle.ep_tree.specs.declared.values.Entry.{Entry}
use Rattle.ep_eval.specs.declared.environments.Meaning.{Meaning}
use Rattle.ep_eval.specs.declared.environments.Meaning.TheVariants.{Value, Cells, Domain}
use Rattle.ep_eval.specs.declared.environments.NamedDomain.{NamedDomain}

-- a value with its type
abbrev pub entry_bound : Entry → Bound
entry_bound e = has_value e.ty (value_tree e.value)

-- a decision variable's cells
abbrev pub cells_of : NamedDomain → Bound
cells_of d = has_cells d.of d.indices.items d.values

-- a domain
abbrev pub domain_of : NamedDomain → Bound
domain_of d = has_domain d.of d.indices.items d.values

-- what a name stands for
unfoldable pub bound_of : Meaning → Bound
bound_of (Value e) = entry_bound e
bound_of (Cells d) = cells_of d
bound_of (Domain d) = domain_of d

-- what a name stands for, if that is a value
unfoldable pub only_value : Option Bound → Option Bound
only_value (Some (has_value t v)) = Some (has_value t v)
only_value _ = None

-- what a name stands for, if that is a decision variable
unfoldable pub only_cells : Option Bound → Option Bound
only_cells (Some (has_cells s indices values)) = Some (has_cells s indices values)
only_cells _ = None

-- what a name stands for, if that is a domain
unfoldable pub only_domain : Option Bound → Option Bound
only_domain (Some (has_domain s indices values)) = Some (has_domain s indices values)
only_domain _ = None
