use Rattle.std.proofs.Common.{◌≡◌, All, ◌++◌, map, take}
use Rattle.std.specs.List.{flat_map}
use Rattle.cnf_core.specs.Literal.{IsVariable}
use Rattle.cnf_core.specs.Events.{plain_note}
use Rattle.sat_text.specs.Writing.{note_text}
use Rattle.sat_text.proofs.writing.put_notes.Given as goal

abbrev pub invariant-loop-note : goal.invariant-loop-note
invariant-loop-note l = record {
  text : l.out.items ≡ l.initial.out.items ++ flat_map note_text (map plain_note (take l.note-index l.notes));
  variables : All (λ note. IsVariable note.lit.var) (take l.note-index l.notes);
}
