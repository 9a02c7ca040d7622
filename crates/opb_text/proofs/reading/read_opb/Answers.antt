use Rattle.std.proofs.Common.{◌≡◌, sym, ◌∙◌, subst}
use Rattle.opb_text.specs.Grammar.{SpellsOpb, IsOpbFaultLine}
use Rattle.opb_text.specs.Views.{plain_reader}
use Rattle.opb_text.proofs.Faults.{read_spells, read_content, stopped_at_fault, stopped_spells_nothing, wanting_at_end, wanting_spells_nothing}
use Rattle.opb_text.proofs.reading.read_opb.Goals as goal

pub returns-in-Err-At-clause-complete : goal.returns-in-Err-At-clause-complete
returns-in-Err-At-clause-complete c = λ content s line e.
    let stops = c.in-Err-At.ensures in
    stopped_spells_nothing c.args.text.now c.in-Err-At.line content (rw c.in-Err-At.field-0-is at stops) s

pub returns-in-Err-At-clause-fault : goal.returns-in-Err-At-clause-fault
returns-in-Err-At-clause-fault c = λ line e.
    let stops = c.in-Err-At.ensures in
    let same : c.in-Err-At.line ≡ line = cc in
    subst (IsOpbFaultLine c.args.text.now) same (stopped_at_fault c.args.text.now c.in-Err-At.line (rw c.in-Err-At.field-0-is at stops))

pub returns-then-is_done-clause-spelled : goal.returns-then-is_done-clause-spelled
returns-then-is_done-clause-spelled c =
    subst (SpellsOpb c.args.text.now) (sym c.content.ensures)
    (read_spells c.args.text.now (plain_reader c.in-Ok.reader) c.in-Ok.ensures.0 (sym c.is_done.ensures ∙ c.if-is_done.true))

pub returns-then-is_done-clause-complete : goal.returns-then-is_done-clause-complete
returns-then-is_done-clause-complete c = λ content s.
    c.content.ensures ∙ read_content c.args.text.now (plain_reader c.in-Ok.reader) content c.in-Ok.ensures.0 s

pub returns-else-is_done-clause-complete : goal.returns-else-is_done-clause-complete
returns-else-is_done-clause-complete c = λ content s line e.
    wanting_spells_nothing c.args.text.now (plain_reader c.in-Ok.reader) content c.in-Ok.ensures.0 (sym c.is_done.ensures ∙ c.if-is_done.false) s

pub returns-else-is_done-clause-fault : goal.returns-else-is_done-clause-fault
returns-else-is_done-clause-fault c = λ line e.
    let same : c.in-Ok.last ≡ line = cc in
    wanting_at_end c.args.text.now (plain_reader c.in-Ok.reader) line c.in-Ok.ensures.0 (sym c.is_done.ensures ∙ c.if-is_done.false) (sym same ∙ c.in-Ok.ensures.1)
