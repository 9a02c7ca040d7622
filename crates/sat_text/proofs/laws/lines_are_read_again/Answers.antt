use Rattle.sat_text.proofs.LogAgain.{lines_are_read}
use Rattle.sat_text.proofs.laws.lines_are_read_again.Goals as goal

pub returns : goal.returns
returns c = lines_are_read
