use Rattle.std.proofs.Common.{◌++◌, sym, ap, ◌∙◌}
use Rattle.ep_print.proofs.Appends.{three}
use Rattle.ep_print.proofs.Matrices.{no_indices, some_indices}
use Rattle.ep_print.proofs.indices.push_index_domain.Goals as goal

pub returns-then-is_empty : goal.returns-then-is_empty
returns-then-is_empty c = c.in_ok-extend_from_slice.ensures.items ∙ ap (λ t. c.args.text.now.items ++ t) (sym (no_indices c.args.indices.now (sym c.if-is_empty.ensures)))

pub returns : goal.returns
returns c =
    three _ _ _ _ _ _ _ c.in_ok-extend_from_slice-2.ensures.items c.in_ok-push_runs.ensures c.in_ok-extend_from_slice-3.ensures.items
    ∙ ap (λ t. c.args.text.now.items ++ t) (sym (some_indices c.args.indices.now (sym c.if-is_empty.ensures)))
