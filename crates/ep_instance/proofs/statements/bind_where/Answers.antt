use Rattle.std.proofs.Common.{ap, sym, map}
use Rattle.std.proofs.lemmas.Result.{err_from_is_err_and}
use Rattle.ep_tree.specs.Views.{expr_tree}
use Rattle.ep_instance_parts.proofs.Answering.{refuses_first, then_is}
use Rattle.ep_instance.specs.Progressing.{progress_of, where_progress}
use Rattle.ep_instance.proofs.statements.bind_where.Goals as goal

pub returns-in_err-next-clause-progress : goal.returns-in_err-next-clause-progress
returns-in_err-next-clause-progress c =
    let at = progress_of c.args.at.now in
    let mode = c.args.at.now.env.mode in
    let p = err_from_is_err_and c.from_residual.result c.from_residual.ensures.1 in
    rw (p.1, p.2) (refuses_first _ _ _ _ (ap (λ xs. where_progress mode at (map expr_tree xs)) (sym c.deref.ensures.value)) c.in_err-next.ensures)

pub returns-clause-progress : goal.returns-clause-progress
returns-clause-progress c =
    let at = progress_of c.args.at.now in
    let mode = c.args.at.now.env.mode in
    then_is _ _ _ _ (ap (λ xs. where_progress mode at (map expr_tree xs)) (sym c.deref.ensures.value)) c.in_ok-next.ensures
