use Rattle.sat_text.proofs.FaultLines.{one_wrong_line}
use Rattle.sat_text.proofs.LogSpelled.{log_complete, same_lines}
use Rattle.sat_text.proofs.laws.log_texts_have_one_meaning.Goals as goal

pub returns-clause-one : goal.returns-clause-one
returns-clause-one c = λ text read others s t. same_lines text read others (log_complete text read s) t

pub returns-clause-line : goal.returns-clause-line
returns-clause-line c = one_wrong_line
