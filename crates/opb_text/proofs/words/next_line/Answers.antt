use Rattle.std.proofs.Common.{sym}
use Rattle.sat_text.proofs.Cuts.{line_taken, line_whole, some_bytes}
use Rattle.opb_text.proofs.words.next_line.Goals as goal

pub returns-in-Some-clause-cuts : goal.returns-in-Some-clause-cuts
returns-in-Some-clause-cuts c = line_taken c.args.text.now c.split_at.result.1.now c.in-Some.end c.in-Some.ensures c.split_at.ensures.back

pub returns-in-None-clause-cuts : goal.returns-in-None-clause-cuts
returns-in-None-clause-cuts c = line_whole c.args.text.now (some_bytes c.args.text.now c.if-is_empty.ensures) (sym c.in-None.ensures)
