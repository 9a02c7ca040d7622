use Rattle.ep_eval.proofs.Words.{arith}
use Rattle.ep_eval.proofs.DomainTypes.{matrices_told}
use Rattle.ep_eval.proofs.rules.list_of_matrices.Goals as goal

pub returns-in-Some-checked_add : goal.returns-in-Some-checked_add
returns-in-Some-checked_add c =
    matrices_told c.args.parts.now c.args.stated c.in-Some.dims c.in-Some-checked_add.more c.bool_if-of.result c.all_matrix_of_bool.result c.all_have_dimensions.result c.type_if.result
    c.in-Some.is (omega (arith, c.in-Some-checked_add.ensures)) c.all_matrix_of_bool.ensures c.bool_if-of.ensures c.all_have_dimensions.ensures c.type_if.ensures
