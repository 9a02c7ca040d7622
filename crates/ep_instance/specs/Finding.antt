-- Decision variables of a domain that is kept.
use Rattle.std.specs.Prelude.{◌≡◌, List, Option, None, Some, map, option_and_then}
use Rattle.ep_base.specs.declared.names.Name.{Name}
use Rattle.ep_base.specs.declared.places.Place.{Place}
use Rattle.ep_tree.specs.Binding as defined
use Rattle.ep_tree.specs.Binding.{Find}
use Rattle.ep_instance.specs.declared.lettings.ListedShape.{ListedShape}

-- a decision variable with this domain
abbrev pub kept_find : ListedShape → Name → Find
kept_find kept name = record { name = name; scalar = kept.scalar; indices = kept.indices.items; values = kept.values }

-- those of a group
abbrev pub kept_finds : ListedShape → List (Name × Place) → List Find
kept_finds kept names = map (λ name. kept_find kept name.0) names

-- a bound domain with a list of its numbers is kept, and none is where there is none
abbrev pub IsListedShape : Option defined.Shape → Option ListedShape → Type 0
IsListedShape bound (Some kept) =
    (shape : defined.Shape) × (bound ≡ Some shape) × (kept.scalar ≡ shape.scalar) × (kept.indices.items ≡ shape.indices)
    × (shape.values ≡ Some kept.values)
IsListedShape bound None = option_and_then (λ shape. shape.values) bound ≡ None
