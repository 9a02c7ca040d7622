-- What a read leaves of cells that are alike.
use Rattle.std.specs.Prelude.{◌≡◌, Bool, true, false, List, ℤ, Option, Some, None, map, option_map}
use Rattle.ep_base.specs.Numbers.{has_number}
use Rattle.ep_tree.specs.Reach.{Extent as ExtentTree, MeasuredIndex, Span, decided_index, fixed_index, plain_index, whole_index}
use Rattle.ep_tree.specs.Values.{Index, all_defined, filled, read_value}
use Rattle.ep_size.specs.Extents.{grid_of}
use Rattle.ep_size.specs.Lists.{TellsExtent}
use Rattle.ep_size.specs.declared.extents.Extent.{Extent}

-- indices without a decision variable, each with a value, leave cells over other index domains
pub record LeavesDomains (is : List MeasuredIndex) (domains left : List (List ℤ)) : Type 0 where
  pub plain : List Index
  pub told : all_defined (map plain_index is) ≡ Some plain
  pub reads : (s : Span) → read_value plain (filled s domains) ≡ Some (filled s left)

-- whether an index has a value, and no decision variable
unfoldable pub is_told : MeasuredIndex → Bool
is_told (fixed_index None) = false
is_told (fixed_index (Some n)) = true
is_told whole_index = true
is_told (decided_index s) = false

-- whether an index is a value of an index domain
unfoldable pub names_one : MeasuredIndex → List ℤ → Bool
names_one (fixed_index None) domain = false
names_one (fixed_index (Some n)) domain = has_number domain n
names_one whole_index domain = false
names_one (decided_index s) domain = false

-- what is read, by what is known of it
pub record PartOf (x : Extent) (read : Option ExtentTree) : Type 0 where
  pub grid : ExtentTree
  pub is : read ≡ Some grid
  pub listed : TellsExtent x grid

-- what is read is known, or there is nothing
unfoldable pub IsPart : Option Extent → Option ExtentTree → Type 0
IsPart None read = read ≡ None
IsPart (Some x) read = PartOf x read

-- what is read of something known, by indices without a decision variable that all have values
abbrev pub ReadsGrid : List MeasuredIndex → ExtentTree → Option Extent → Type 0
ReadsGrid ms x part = (js : List Index) → all_defined (map plain_index ms) ≡ Some js → read_value js x ≡ option_map grid_of part
