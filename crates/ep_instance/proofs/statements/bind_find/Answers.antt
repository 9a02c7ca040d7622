use Rattle.std.proofs.Common.{◌∙◌, ap, sym, map}
use Rattle.std.proofs.lemmas.Result.{err_from_is_err_and}
use Rattle.ep_tree.specs.Binding.{now_with, with_finds}
use Rattle.ep_tree.specs.Views.{group_of}
use Rattle.ep_instance_parts.proofs.Answering.{refuses_first, then_is}
use Rattle.ep_instance_parts.specs.Instances.{find_of}
use Rattle.ep_instance.specs.Progressing.{finds_progress, progress_of}
use Rattle.std.specs.Prelude.{Ok}
use Rattle.std.proofs.lemmas.List.{map-append}
use Rattle.ep_instance.proofs.statements.bind_find.Goals as goal

pub returns-in_err-finds-clause-progress : goal.returns-in_err-finds-clause-progress
returns-in_err-finds-clause-progress c =
    let at = progress_of c.args.at.now in
    let mode = c.args.at.now.env.mode in
    let p = err_from_is_err_and c.from_residual.result c.from_residual.ensures.1 in
    rw (p.1, p.2) (refuses_first _ _ _ _ (ap (λ xs. finds_progress mode at c.args.place (map group_of xs)) (sym c.deref.ensures.value)) c.in_err-finds.ensures)

pub returns-clause-progress : goal.returns-clause-progress
unfolding now_with with_finds
returns-clause-progress c =
    let at = progress_of c.args.at.now in
    let mode = c.args.at.now.env.mode in
    then_is _ _ _ _ (ap (λ xs. finds_progress mode at c.args.place (map group_of xs)) (sym c.deref.ensures.value)) c.in_ok-finds.ensures
    ∙ ap (λ fs. Ok (now_with at (record (at.instance) { finds = fs })))
    (sym (map-append find_of c.args.at.now.finds.items c.in_ok-finds.finds.items) ∙ ap (map find_of) (sym c.in_ok-append.ensures.items))
