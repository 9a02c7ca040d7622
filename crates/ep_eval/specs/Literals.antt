-- The parts of a list in brackets.
use Rattle.std.specs.Prelude.{List, Option, map, option_map}
use Rattle.std.specs.declared.alloc.Global.{Global}
use Rattle.std.specs.declared.vec.Vec.{Vec}
use Rattle.ep_tree.specs.Values.{ValueTree}
use Rattle.ep_tree.specs.Views.{value_tree}
use Rattle.ep_tree.specs.declared.values.Value.{Value}

-- the values of some parts, where each has one
abbrev pub listed_in : Option (Vec Value Global) → Option (List ValueTree)
listed_in values = option_map (λ v. map value_tree v.items) values
