use Rattle.std.proofs.Common.{List, ◌≡◌, ◌+◌, sym, ◌∙◌, subst, None}
use Rattle.cnf_core.specs.Lines.{ProofLine}
use Rattle.sat_proof.specs.Lines.{proof_lines}
use Rattle.sat_text.specs.Words.{first_line, words}
use Rattle.sat_text.specs.Answers.{Fails}
use Rattle.sat_text.specs.Proofs.{line_of, proof_of}
use Rattle.sat_text.specs.declared.faults.Fault.{Fault}
use Rattle.sat_text.proofs.Cuts.{some_bytes}
use Rattle.sat_text.proofs.Heads.{behind_shorter}
use Rattle.sat_text.proofs.LogLoop.{Reading, line_quiet, line_wrong, line_more, lines_end, bad_line}
use Rattle.sat_text.proofs.LogSpelled.{log_sound, first_wrong_line, same_lines, refused_spells_none}
use Rattle.sat_text.proofs.proof.read_log.Goals as goal

pub returns-in-Err-Wrong-clause-bad : goal.returns-in-Err-Wrong-clause-bad
returns-in-Err-Wrong-clause-bad c = λ line e.
    let some = some_bytes c.loop-rest.rest.now (sym c.loop-rest-test.true ∙ c.is_empty.ensures) in
    let none : line_of (words (first_line c.loop-rest.rest.now)) ≡ None
    = subst (λ (f : Fault). Fails f (line_of (words (first_line c.loop-rest.rest.now)))) c.in-Err-Wrong.field-0-is c.in-Err-Wrong.ensures.adds in
    let wrong = line_wrong (proof_lines c.loop-rest.reading.proof) c.loop-rest.number c.loop-rest.rest.now c.args.text.now c.loop-rest.invariant some c.in-None.ensures none in
    bad_line (proof_of c.args.text.now) (c.loop-rest.number + 1) line wrong e

pub returns-in-Err-Wrong-clause-fault : goal.returns-in-Err-Wrong-clause-fault
returns-in-Err-Wrong-clause-fault c = λ line e. first_wrong_line c.args.text.now line (returns-in-Err-Wrong-clause-bad c line e)

pub returns-in-Err-Wrong-clause-complete : goal.returns-in-Err-Wrong-clause-complete
returns-in-Err-Wrong-clause-complete c = λ proof s line e.
    let some = some_bytes c.loop-rest.rest.now (sym c.loop-rest-test.true ∙ c.is_empty.ensures) in
    let none : line_of (words (first_line c.loop-rest.rest.now)) ≡ None
    = subst (λ (f : Fault). Fails f (line_of (words (first_line c.loop-rest.rest.now)))) c.in-Err-Wrong.field-0-is c.in-Err-Wrong.ensures.adds in
    let wrong = line_wrong (proof_lines c.loop-rest.reading.proof) c.loop-rest.number c.loop-rest.rest.now c.args.text.now c.loop-rest.invariant some c.in-None.ensures none in
    refused_spells_none c.args.text.now (c.loop-rest.number + 1) proof wrong s

pub loop-rest-smaller-in-Some : goal.loop-rest-smaller-in-Some
loop-rest-smaller-in-Some c = rw c.in-Some.ensures.1 (behind_shorter c.loop-rest.rest.now (some_bytes c.loop-rest.rest.now (sym c.loop-rest-test.true ∙ c.is_empty.ensures)))

pub loop-rest-smaller : goal.loop-rest-smaller
loop-rest-smaller c = rw c.in-Ok.ensures.later (behind_shorter c.loop-rest.rest.now (some_bytes c.loop-rest.rest.now (sym c.loop-rest-test.true ∙ c.is_empty.ensures)))

pub loop-rest-preserved-in-Some : goal.loop-rest-preserved-in-Some
loop-rest-preserved-in-Some c =
    line_quiet (proof_lines c.loop-rest.reading.proof) c.loop-rest.number c.loop-rest.rest.now c.in-Some.later.now c.args.text.now c.loop-rest.invariant (some_bytes c.loop-rest.rest.now (sym c.loop-rest-test.true ∙ c.is_empty.ensures)) c.in-Some.ensures.1 c.in-Some.ensures.0

pub loop-rest-preserved : goal.loop-rest-preserved
loop-rest-preserved c =
    let read = c.in-Ok.ensures.adds in
    subst (λ (lines : List ProofLine). Reading lines (c.loop-rest.number + 1) c.in-Ok.later.now c.args.text.now) (sym read.2)
    (line_more (proof_lines c.loop-rest.reading.proof) c.loop-rest.number c.loop-rest.rest.now c.in-Ok.later.now c.args.text.now read.0 c.loop-rest.invariant (some_bytes c.loop-rest.rest.now (sym c.loop-rest-test.true ∙ c.is_empty.ensures)) c.in-Ok.ensures.later c.in-None.ensures read.1)

pub returns-clause-found : goal.returns-clause-found
returns-clause-found c = lines_end (proof_lines c.loop-rest.reading.proof) c.loop-rest.number c.loop-rest.rest.now c.args.text.now c.loop-rest.invariant (sym c.is_empty.ensures ∙ c.loop-rest-test.false)

pub returns-clause-spelled : goal.returns-clause-spelled
returns-clause-spelled c = log_sound c.args.text.now (proof_lines c.loop-rest.reading.proof) (lines_end (proof_lines c.loop-rest.reading.proof) c.loop-rest.number c.loop-rest.rest.now c.args.text.now c.loop-rest.invariant (sym c.is_empty.ensures ∙ c.loop-rest-test.false))

pub returns-clause-complete : goal.returns-clause-complete
returns-clause-complete c = λ proof s.
    same_lines c.args.text.now (proof_lines c.loop-rest.reading.proof) proof (lines_end (proof_lines c.loop-rest.reading.proof) c.loop-rest.number c.loop-rest.rest.now c.args.text.now c.loop-rest.invariant (sym c.is_empty.ensures ∙ c.loop-rest-test.false)) s
