use Rattle.std.proofs.Common.{refl}
use Rattle.ep_tree.specs.TypedValues.{is_number_of}
use Rattle.ep_tree.specs.Views.{value_tree}
use Rattle.ep_print_tests.proofs.values.text.Goals as goal

pub print_value-requires : goal.print_value-requires
unfolding value_tree is_number_of
print_value-requires c = record { typed = refl }

pub print_value-requires-in-1 : goal.print_value-requires-in-1
unfolding value_tree is_number_of
print_value-requires-in-1 c = record { typed = refl }
