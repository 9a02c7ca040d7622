use Rattle.std.proofs.lemmas.Result.{err_from_is_err_and}
use Rattle.sat_text.proofs.HeardSteps.{all_notes, all_added}
use Rattle.sat_text.proofs.cnf.read_cnf.Goals as goal

pub returns-in_err-formula-clause-complete : goal.returns-in_err-formula-clause-complete
returns-in_err-formula-clause-complete c =
    let p = err_from_is_err_and c.from_residual.result c.from_residual.ensures.1 in
    rw (p.1, p.2) c.in_err-formula.ensures.complete

pub returns-clause-notes : goal.returns-clause-notes
returns-clause-notes c = all_notes c.new-said.result _ _ c.new-said.ensures.notes c.in_ok-formula.ensures.heard

pub returns-clause-added : goal.returns-clause-added
returns-clause-added c = all_added c.new-said.result _ _ c.new-said.ensures.added c.in_ok-formula.ensures.heard
