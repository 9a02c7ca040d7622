use Rattle.std.proofs.Common.{rules, append_assoc}
use Rattle.sat_text.proofs.writing.put_note.Goals as goal

pub returns : goal.returns
returns c = search (rules, append_assoc)
