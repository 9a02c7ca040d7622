use Rattle.sat_text.proofs.Heads.{line_front, line_back, line_alone, nothing_behind}
use Rattle.sat_text.proofs.words.split_line.Goals as goal

pub returns-in-Some-clause-line : goal.returns-in-Some-clause-line
returns-in-Some-clause-line c = line_front c.args.text.now c.in-Some.end c.in-Some.ensures

pub returns-in-Some-clause-later : goal.returns-in-Some-clause-later
returns-in-Some-clause-later c = line_back c.args.text.now c.split_at.result.1.now c.in-Some.end c.in-Some.ensures c.split_at.ensures.back

pub returns-in-None-clause-line : goal.returns-in-None-clause-line
returns-in-None-clause-line c = line_alone c.args.text.now c.in-None.ensures

pub returns-in-None-clause-later : goal.returns-in-None-clause-later
returns-in-None-clause-later c = nothing_behind c.args.text.now c.in-None.ensures
