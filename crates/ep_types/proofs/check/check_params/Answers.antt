use Rattle.std.proofs.Common.{ap, map, sym, ◌∙◌}
use Rattle.std.proofs.lemmas.Result.{err_from_is_err_and}
use Rattle.ep_tree.specs.Faults.{lettings_of, params_faults}
use Rattle.ep_tree.specs.Names.{nothing_known}
use Rattle.ep_tree.specs.Views.{params_tree, statement_tree}
use Rattle.ep_types.proofs.StatementSteps.{faultless, faulty}
use Rattle.ep_types.proofs.Walks.{blames_same}
use Rattle.ep_types.specs.Checking.{check_text}
use Rattle.ep_types.proofs.check.check_params.Goals as goal

pub new-requires : goal.new-requires
unfolding params_faults params_tree
new-requires c = record { faultless = faultless (lettings_of (params_tree c.args.params)) (ap (λ xs. check_text nothing_known (lettings_of (map statement_tree xs))) (sym c.deref.ensures.value) ∙ c.in_ok-check_lettings.ensures) }

pub returns-in_err-check_lettings-clause-named : goal.returns-in_err-check_lettings-clause-named
unfolding params_faults params_tree
returns-in_err-check_lettings-clause-named c =
    let p = err_from_is_err_and c.from_residual.result c.from_residual.ensures.1 in
    rw (p.1, p.2)
    (faulty (lettings_of (params_tree c.args.params)) c.in_err-check_lettings.field-0.0
    (blames_same c.in_err-check_lettings.field-0.0 _ _ (ap (λ xs. check_text nothing_known (lettings_of (map statement_tree xs))) (sym c.deref.ensures.value)) c.in_err-check_lettings.ensures))

pub returns-clause-faultless : goal.returns-clause-faultless
unfolding params_faults params_tree
returns-clause-faultless c = faultless (lettings_of (params_tree c.args.params)) (ap (λ xs. check_text nothing_known (lettings_of (map statement_tree xs))) (sym c.deref.ensures.value) ∙ c.in_ok-check_lettings.ensures)

pub returns-in_err-check_lettings-clause-first : goal.returns-in_err-check_lettings-clause-first
unfolding params_tree
returns-in_err-check_lettings-clause-first c =
    let p = err_from_is_err_and c.from_residual.result c.from_residual.ensures.1 in
    rw (p.1, p.2)
    (blames_same c.in_err-check_lettings.field-0.0 _ _ (ap (λ xs. check_text nothing_known (lettings_of (map statement_tree xs))) (sym c.deref.ensures.value)) c.in_err-check_lettings.ensures)
