-- Parts whose check says less than their types.
use Rattle.std.specs.Prelude.{Bool, not, ◌&&◌, Some, None, Ok, Option}
use Rattle.std.specs.List.{list_all}
use Rattle.std.specs.declared.alloc.Global.{Global}
use Rattle.std.specs.declared.boxed.Box.{Box}
use Rattle.ep_base.specs.declared.places.Place.{Place}
use Rattle.ep_tree.specs.Faults.{entry_count, leaves_matrix}
use Rattle.ep_tree.specs.Trees.{IndexDomain, Indices, Ranges, no_ranges, over, unstated}
use Rattle.ep_tree.specs.Types.{Context, is_integer, read_type, slice_count, typed}
use Rattle.ep_tree.specs.Views.{domain_tree, with_range}
use Rattle.ep_tree.specs.declared.syntax.Domain.{Domain}
use Rattle.ep_tree.specs.declared.syntax.Range.{Range}
use Rattle.ep_tree.specs.declared.values.ValueType.{ValueType}
use Rattle.ep_types_rules.specs.Concluding.{Checked, conclude, ◌>>=◌}
use Rattle.ep_types.specs.Checking.{check_indices, check_ranges}

-- a read of a matrix of a type: its indices, and then the read
abbrev pub check_read : Context → Bool → Place → ValueType → Indices → Checked ValueType
check_read c d p t indices =
    check_indices c (d && not (leaves_matrix (typed t) (entry_count indices) (slice_count indices))) indices >>= λ ts.
    conclude p (read_type t ts (slice_count indices))

-- whether all bounds of ranges are integer
abbrev pub check_bounds : Context → Ranges → Checked Bool
check_bounds c rs = check_ranges c rs >>= λ ts. Ok (list_all is_integer ts)

-- whether the bounds of a range are integer
abbrev pub range_bounds : Context → Range → Checked Bool
range_bounds c r = check_bounds c (with_range r no_ranges)

-- the domain of a list's indices, where one is stated
unfoldable pub stated_index : Option (Box Domain Global) → IndexDomain
stated_index None = unstated
stated_index (Some d) = over (domain_tree d.value)
