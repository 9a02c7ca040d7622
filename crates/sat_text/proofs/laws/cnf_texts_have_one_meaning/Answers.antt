use Rattle.sat_text.proofs.CnfSpelled.{cnf_complete, same_content}
use Rattle.sat_text.proofs.FaultLines.{one_fault_line}
use Rattle.sat_text.proofs.laws.cnf_texts_have_one_meaning.Goals as goal

pub returns-clause-one : goal.returns-clause-one
returns-clause-one c = λ text vars others clauses other_clauses s t.
    same_content text (record { vars = vars; clauses = clauses }) others other_clauses (cnf_complete text vars clauses s) t

pub returns-clause-line : goal.returns-clause-line
returns-clause-line c = one_fault_line
