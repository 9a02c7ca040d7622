use Rattle.std.proofs.Common.{ap, map, sym, ◌∙◌}
use Rattle.std.proofs.lemmas.Result.{err_from_is_err_and}
use Rattle.ep_tree.specs.Names.{nothing_known}
use Rattle.ep_tree.specs.Views.{model_tree, statement_tree}
use Rattle.ep_types.proofs.StatementSteps.{faultless, faulty}
use Rattle.ep_types.proofs.Walks.{blames_same}
use Rattle.ep_types.specs.Checking.{check_text}
use Rattle.ep_types.proofs.check.check_model.Goals as goal

pub new-requires : goal.new-requires
unfolding model_tree
new-requires c = record { faultless = faultless (model_tree c.args.model) (ap (λ xs. check_text nothing_known (map statement_tree xs)) (sym c.deref.ensures.value) ∙ c.in_ok-check_statements.ensures) }

pub returns-in_err-check_statements-clause-named : goal.returns-in_err-check_statements-clause-named
unfolding model_tree
returns-in_err-check_statements-clause-named c =
    let p = err_from_is_err_and c.from_residual.result c.from_residual.ensures.1 in
    rw (p.1, p.2)
    (faulty (model_tree c.args.model) c.in_err-check_statements.field-0.0
    (blames_same c.in_err-check_statements.field-0.0 _ _ (ap (λ xs. check_text nothing_known (map statement_tree xs)) (sym c.deref.ensures.value)) c.in_err-check_statements.ensures))

pub returns-clause-faultless : goal.returns-clause-faultless
unfolding model_tree
returns-clause-faultless c = faultless (model_tree c.args.model) (ap (λ xs. check_text nothing_known (map statement_tree xs)) (sym c.deref.ensures.value) ∙ c.in_ok-check_statements.ensures)

pub returns-in_err-check_statements-clause-first : goal.returns-in_err-check_statements-clause-first
unfolding model_tree
returns-in_err-check_statements-clause-first c =
    let p = err_from_is_err_and c.from_residual.result c.from_residual.ensures.1 in
    rw (p.1, p.2)
    (blames_same c.in_err-check_statements.field-0.0 _ _ (ap (λ xs. check_text nothing_known (map statement_tree xs)) (sym c.deref.ensures.value)) c.in_err-check_statements.ensures)
