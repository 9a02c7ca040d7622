use Rattle.sat_proof.specs.Lines.{proof_lines}
use Rattle.ep_files.specs.Reads.{formula_clauses}
use Rattle.ep_driver.proofs.Running.{verdict-ends, verdict-said}
use Rattle.ep_driver.proofs.verdicts.checked_reply.Goals as goal

pub returns-clause-answers : goal.returns-clause-answers
returns-clause-answers g c =
    verdict-said (formula_clauses c.args.formula.now) (proof_lines c.args.proof.now) c.in_ok-verdict.verdict c.verdict_status.result c.in_ok-text.text.items
    c.in_ok-verdict.ensures c.verdict_status.ensures c.in_ok-text.ensures.text

pub returns-clause-ends : goal.returns-clause-ends
returns-clause-ends g c = verdict-ends c.in_ok-verdict.verdict c.verdict_status.result c.verdict_status.ensures
