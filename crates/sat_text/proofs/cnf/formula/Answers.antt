use Rattle.std.proofs.Common.{◌≡◌, sym, ◌∙◌, subst}
use Rattle.sat_text.specs.Words.{last_line}
use Rattle.sat_text.specs.CnfGrammar.{IsFaultLine}
use Rattle.sat_text.proofs.CnfFaults.{fault_line}
use Rattle.sat_text.specs.Cnf.{plain_formula}
use Rattle.sat_text.proofs.CnfSpelled.{cnf_sound, same_content, refused_spells_none}
use Rattle.sat_text.proofs.cnf.formula.Goals as goal

pub returns-in-Ok-clause-spelled : goal.returns-in-Ok-clause-spelled
returns-in-Ok-clause-spelled c = cnf_sound c.args.text.now (plain_formula c.in-Ok.found) (c.in-Ok.ensures.found (last_line c.args.text.now))

pub returns-in-Ok-clause-complete : goal.returns-in-Ok-clause-complete
returns-in-Ok-clause-complete c = λ vars clauses s.
    same_content c.args.text.now (plain_formula c.in-Ok.found) vars clauses (c.in-Ok.ensures.found (last_line c.args.text.now)) s

pub returns-in-Err-At-clause-complete : goal.returns-in-Err-At-clause-complete
returns-in-Err-At-clause-complete c = λ vars clauses s line e.
    let stops = c.in-Err-At.ensures.found (last_line c.args.text.now) in
    refused_spells_none c.args.text.now c.in-Err-At.line vars clauses (rw c.in-Err-At.field-0-is at stops) s

pub returns-in-Err-Ends-clause-complete : goal.returns-in-Err-Ends-clause-complete
returns-in-Err-Ends-clause-complete c = λ vars clauses s line e.
    let stops = c.in-Err-Ends.ensures.found (last_line c.args.text.now) in
    refused_spells_none c.args.text.now (last_line c.args.text.now) vars clauses (rw c.in-Err-Ends.field-0-is at stops) s

pub returns-in-Err-At-clause-fault : goal.returns-in-Err-At-clause-fault
returns-in-Err-At-clause-fault c = λ line e.
    let stops = c.in-Err-At.ensures.found (last_line c.args.text.now) in
    let same : c.in-Err-At.line ≡ line = cc in
    subst (IsFaultLine c.args.text.now) same (fault_line c.args.text.now c.in-Err-At.line (rw c.in-Err-At.field-0-is at stops))

pub returns-in-Err-Ends-clause-fault : goal.returns-in-Err-Ends-clause-fault
returns-in-Err-Ends-clause-fault c = λ line e.
    let stops = c.in-Err-Ends.ensures.found (last_line c.args.text.now) in
    let same : c.last_line.result ≡ line = cc in
    subst (IsFaultLine c.args.text.now) (sym c.last_line.ensures ∙ same) (fault_line c.args.text.now (last_line c.args.text.now) (rw c.in-Err-Ends.field-0-is at stops))
