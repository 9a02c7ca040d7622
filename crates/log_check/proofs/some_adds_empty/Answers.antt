use Rattle.std.proofs.Common.{◌-◌, length, sym, ap, ◌∙◌}
use Rattle.std.specs.Prelude.{option_copied}
use Rattle.std.specs.List.{list_any}
use Rattle.sat_proof.specs.Lines.{row_line}
use Rattle.log_check.specs.Verdict.{adds_empty_clause}
use Rattle.log_check.proofs.Lives.{any_there}
use Rattle.log_check.proofs.some_adds_empty.Goals as goal

pub returns-then-adds_empty : goal.returns-then-adds_empty
returns-then-adds_empty c =
    let proof = c.args.proof.now in
    let rows = c.rows.result.now in
    sym (ap (list_any (λ row. adds_empty_clause (row_line proof row))) (sym c.rows.ensures)
    ∙ any_there (λ row. adds_empty_clause (row_line proof row)) rows (length rows - 1) c.in-Some.last.now (sym c.last.ensures.value ∙ ap option_copied c.in-Some.is)
    (ap adds_empty_clause (sym c.line.ensures) ∙ sym c.adds_empty.ensures ∙ c.if-adds_empty.true))
