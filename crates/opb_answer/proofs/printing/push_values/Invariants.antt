use Rattle.std.proofs.Common.{◌≡◌, ◌++◌, drop}
use Rattle.std.specs.List.{flat_map}
use Rattle.opb_answer.specs.Lines.{value_word}
use Rattle.opb_answer.proofs.printing.push_values.Given as goal

abbrev pub invariant-loop-value : goal.invariant-loop-value
invariant-loop-value l = l.text.items ++ flat_map value_word (drop l.value-index l.values) ≡ l.initial.text.items ++ flat_map value_word l.values
