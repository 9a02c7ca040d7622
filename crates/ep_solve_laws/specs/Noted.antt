-- Notes that are read again.
use Rattle.std.specs.Prelude.{◌≡◌, Ok}
use Rattle.std.specs.List.{All}
use Rattle.cnf_core.specs.Events.{LogState}
use Rattle.sat_text.specs.Writing.{IsReadableNote}
use Rattle.ep_solve.specs.Logged.{Stands}
use Rattle.ep_tree.specs.Binding.{Instance, bind}
use Rattle.ep_tree.specs.Statements.{TextTree}
use Rattle.ep_tree.specs.Texts.{IsSpellable}
use Rattle.ep_tree.specs.declared.values.Mode.{Mode}

-- The notes of a log that stands for an instance can be read: of an instance that a model which some text spells is bound to.
abbrev pub NotesCanBeRead : Type 0
NotesCanBeRead =
    (mode : Mode) (model params : TextTree) (i : Instance) → IsSpellable model → bind mode model params ≡ Ok i
    → (log : LogState) → Stands mode i log → All IsReadableNote log.notes
