-- Names that are hidden by what they stand for already.
use Rattle.std.specs.Prelude.{◌≡◌, Some}
use Rattle.ep_base.specs.declared.names.Name.{Name}
use Rattle.ep_tree.specs.Types.{Context, Meaning}

-- what a name stands for, if it stands for anything, is this
abbrev pub Keeps : Context → Name → Meaning → Type 0
Keeps c name m = (x : Meaning) → c name ≡ Some x → x ≡ m
