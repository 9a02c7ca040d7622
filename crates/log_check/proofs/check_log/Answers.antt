use Rattle.std.proofs.Common.{List, ap, subst, ◌∙◌}
use Rattle.cnf_core.specs.Literal.{Literal}
use Rattle.sat_proof.specs.Lines.{proof_lines, row_lines}
use Rattle.sat_proof.specs.declared.proof.Row.{Row}
use Rattle.log_check.specs.Parts.{FindsBad, TellsLives}
use Rattle.log_check.specs.Verdict.{verdict_of}
use Rattle.log_check.proofs.Found.{found_in_whole, verdict_is}
use Rattle.log_check.proofs.check_log.Goals as goal

pub returns : goal.returns
returns c =
    let formula = c.clauses-clauses.result.now in
    let proof = c.args.p.now in
    let calendar = c.in_ok-new.field-0 in
    let bad = c.in_ok-bad.bad in
    let tells : TellsLives calendar formula (proof_lines proof) = c.in_ok-new.ensures in
    let found : FindsBad calendar 0 (proof_lines proof) bad = subst (λ (rows : List Row). FindsBad calendar 0 (row_lines proof rows) bad) c.rows.ensures c.in_ok-bad.ensures in
    c.verdict_after.ensures
    ∙ verdict_is proof formula proof.rows bad (found_in_whole calendar formula (proof_lines proof) bad tells found)
    ∙ ap (λ (f : List (List Literal)). verdict_of f (proof_lines proof)) c.clauses-clauses.ensures.value
