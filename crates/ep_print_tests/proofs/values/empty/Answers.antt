use Rattle.std.proofs.Common.{[], refl}
use Rattle.ep_tree.specs.Values.{listed_values}
use Rattle.ep_tree.specs.Views.{values_from}
use Rattle.ep_print.proofs.Rows.{row_is}
use Rattle.ep_print_tests.proofs.values.empty.Goals as goal

pub returns : goal.returns
unfolding values_from listed_values
returns c = row_is _ _ [] [] c.new.ensures.items c.new-2.ensures.items (refl, tt)
