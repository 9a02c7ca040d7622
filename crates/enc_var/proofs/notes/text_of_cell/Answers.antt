use Rattle.std.proofs.Common.{◌++◌, ap, ◌∙◌}
use Rattle.enc_var.specs.Notes.{cell_text, indices_text}
use Rattle.enc_var.proofs.notes.text_of_cell.Goals as goal

pub returns : goal.returns
unfolding cell_text
returns c =
    c.in_ok-push_indices.ensures
    ∙ ap (λ t. t ++ indices_text c.numbers.result.now) (c.in_ok-text.ensures.items ∙ c.as_bytes.ensures.value ∙ c.text.ensures.text)
    ∙ ap (λ ns. c.args.cell.now.name ++ indices_text ns) c.numbers.ensures
