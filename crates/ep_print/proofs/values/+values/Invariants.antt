use Rattle.std.proofs.Common.{◌≡◌, ◌++◌, drop, codes, false}
use Rattle.ep_tree.specs.Views.{values_from}
use Rattle.ep_print.specs.Putting.{continued}
use Rattle.ep_print.specs.Values.{scalar_value_texts}
use Rattle.ep_print.proofs.values.+values.Given as goal

abbrev pub invariant-push_parts-loop-part : goal.invariant-push_parts-loop-part
invariant-push_parts-loop-part l = l.text.items ++ continued (codes ", ") l.started (scalar_value_texts l.scalar (values_from (drop l.part-index l.parts))) ≡ l.initial.text.items ++ continued (codes ", ") false (scalar_value_texts l.scalar (values_from l.parts))
