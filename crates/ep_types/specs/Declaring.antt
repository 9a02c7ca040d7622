-- One name that a statement declares.
use Rattle.std.specs.Prelude.{Ok, is_none}
use Rattle.ep_base.specs.declared.names.Name.{Name}
use Rattle.ep_base.specs.declared.places.Place.{Place}
use Rattle.ep_tree.specs.Faults.{redeclared}
use Rattle.ep_tree.specs.Names.{put}
use Rattle.ep_tree.specs.Types.{Context, Meaning}
use Rattle.ep_types_rules.specs.Concluding.{Checked, unless_fault, ◌>>=◌}

-- a name that isn't declared before is declared
abbrev pub declares : Meaning → Context → Name → Place → Checked Context
declares m c name p = unless_fault (is_none (c name)) (redeclared p name) >>= λ _. Ok (put name m c)
