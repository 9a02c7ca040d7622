-- Values as the evaluator has them, read as the definitions' values.
use Rattle.std.specs.Prelude.{Option, option_map}
use Rattle.ep_tree.specs.Values.{ValueTree, single}
use Rattle.ep_tree.specs.Views.{value_tree}
use Rattle.ep_eval.specs.declared.held.Held.{Held}
use Rattle.ep_eval.specs.declared.held.Held.TheVariants.{Number, Lent, Made}

-- the value that is held
unfoldable pub held_value : Held → ValueTree
held_value (Number n) = single n
held_value (Lent v) = value_tree v.now
held_value (Made v) = value_tree v

-- the value that was seen, if any was
abbrev pub seen_held : Option Held → Option ValueTree
seen_held seen = option_map held_value seen
