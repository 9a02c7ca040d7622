use Rattle.sat_text.proofs.NoteSpelled.{note_sound, note_complete, added_sound, added_complete}
use Rattle.sat_text.proofs.laws.notes_are_spelled.Goals as goal

pub returns-clause-notes : goal.returns-clause-notes
returns-clause-notes c = λ line note. (note_sound line note, note_complete line note)

pub returns-clause-added : goal.returns-clause-added
returns-clause-added c = λ line added. (added_sound line added, added_complete line added)
