-- Where the cells of each decision variable begin.
use Rattle.std.specs.Prelude.{ℕ, ◌+◌, List, [], ◌∷◌, Some, None, bytes_eq, if◌then◌else◌, Option, sum_by}
use Rattle.ep_base.specs.declared.names.Name.{Name}
use Rattle.ep_tree.specs.Binding.{Find}
use Rattle.ep_tree.specs.Solutions.{cell_count}
use Rattle.ep_tree.specs.declared.values.Mode.{Mode}
use Rattle.ep_unroll.specs.Readings.{Numbering}
use Rattle.ep_unroll.specs.declared.firsts.CellTable.{CellTable}
use Rattle.ep_unroll.specs.declared.firsts.FirstCell.{FirstCell}

-- the number of a name's first cell, as a table has it
unfoldable pub first_in : List FirstCell → Name → Option ℕ
first_in [] name = None
first_in (f ∷ fs) name = if bytes_eq name f.name then Some f.cell else first_in fs name

-- the number of a name's first cell, where the cells of decision variables stand one after another from a number on
unfoldable pub first_of : List Find → ℕ → Name → Option ℕ
first_of [] k name = None
first_of (f ∷ fs) k name = if bytes_eq name f.name then Some k else first_of fs (k + cell_count f.indices) name

-- how the cells of a table are numbered, in a mode
abbrev pub numbering_of : Mode → CellTable → Numbering
numbering_of mode table = record { mode = mode; first = first_in table.firsts.items; count = table.count }

-- how the cells of decision variables are numbered, one variable after another, in a mode
abbrev pub numbering : Mode → List Find → Numbering
numbering mode fs = record { mode = mode; first = first_of fs 0; count = sum_by (λ f. cell_count f.indices) fs }
