use Rattle.sat_text.proofs.Cuts.{some_bytes}
use Rattle.sat_text.proofs.Heads.{lines_first, behind_shorter}
use Rattle.sat_text.proofs.words.next_line.Goals as goal

pub returns-clause-cuts : goal.returns-clause-cuts
returns-clause-cuts c = rw (c.split_line.ensures.line, c.split_line.ensures.later) (lines_first c.args.text.now (some_bytes c.args.text.now c.if-is_empty.ensures))

pub returns-clause-shorter : goal.returns-clause-shorter
returns-clause-shorter c = rw c.split_line.ensures.later (behind_shorter c.args.text.now (some_bytes c.args.text.now c.if-is_empty.ensures))
