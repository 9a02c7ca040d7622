use Rattle.std.proofs.Common.{◌∙◌, ap, sym, map}
use Rattle.ep_tree.specs.Binding.{now_with, with_clauses}
use Rattle.ep_tree.specs.Views.{expr_tree}
use Rattle.ep_instance.specs.Progressing.{progress_of}
use Rattle.std.specs.Prelude.{Ok}
use Rattle.std.proofs.lemmas.List.{map-append}
use Rattle.ep_instance.proofs.statements.add_clauses.Goals as goal

pub returns-clause-progress : goal.returns-clause-progress
unfolding now_with with_clauses
returns-clause-progress c =
    let at = progress_of c.args.at.now in
    ap (λ es. Ok (now_with at (record (at.instance) { clauses = es })))
    (sym (map-append expr_tree c.args.at.now.clauses.items c.args.clauses.items) ∙ ap (map expr_tree) (sym c.in_ok-append.ensures.items))
