use Rattle.ep_size.proofs.Words.{ap, ◌∙◌, capped}
use Rattle.ep_size.proofs.MatrixSteps.{number_rows, value_matrix_rows, values_len}
use Rattle.ep_size.proofs.row_counts.value_rows.Goals as goal

pub returns-in-Number : goal.returns-in-Number
returns-in-Number c = number_rows c.args.value.now c.in-Number.field-0 c.in-Number.is

pub returns-in-Matrix : goal.returns-in-Matrix
returns-in-Matrix c =
    value_matrix_rows c.args.value.now c.in-Matrix.field-0 c.in-Matrix.parts c.told.result c.in-Matrix.is (c.told.ensures ∙ ap capped (c.len.ensures ∙ values_len c.in-Matrix.parts))
