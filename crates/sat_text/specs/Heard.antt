-- What a reader keeps of the comments that it has heard.
use Rattle.std.specs.Prelude.{◌≡◌, ℕ, List, ◌++◌, map}
use Rattle.cnf_core.specs.Events.{plain_note}
use Rattle.sat_text.specs.Notes.{notes_of, added_of}
use Rattle.sat_text.specs.declared.notes.Comments.{Comments}

-- behind what was heard before, what these lines say
pub record Heard (old new : Comments) (all : List (List ℕ)) : Type 0 where
  pub notes : map plain_note new.notes.items ≡ map plain_note old.notes.items ++ notes_of all
  pub added : new.added ≡ added_of old.added all
