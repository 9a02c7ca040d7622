use Rattle.std.proofs.lemmas.Result.{err_from_is_err_and}
use Rattle.ep_parse_below.proofs.DomainLoops.{head_fails, index_domains_fail, matrix_read}
use Rattle.ep_parse_below.proofs.below.Below.matrix.Goals as goal

pub returns-in_err-matrix_head : goal.returns-in_err-matrix_head
returns-in_err-matrix_head g c =
    let p = err_from_is_err_and c.from_residual.result c.from_residual.ensures.1 in
    record { read = rw (p.1, p.2) (head_fails _ _ _ _ c.in_err-matrix_head.field-0.0 c.in_err-matrix_head.ensures.read) }

pub returns-in_err-indices : goal.returns-in_err-indices
returns-in_err-indices g c =
    let p = err_from_is_err_and c.from_residual-in_err-indices.result c.from_residual-in_err-indices.ensures.1 in
    record { read = rw (p.1, p.2) (index_domains_fail _ _ _ _ _ _ c.in_err-indices.field-0.0 c.in_ok-matrix_head.ensures.read c.in_err-indices.ensures.read) }

pub returns : goal.returns
returns g c = record { read = matrix_read _ _ _ c.in_ok-indices.indices _ _ _ _ _ c.in_ok-matrix_head.ensures.read c.in_ok-indices.ensures.read c.elements.ensures.read }

pub elements-requires : goal.elements-requires
elements-requires g c = record { ready = c.requires.ready; indices = c.in_ok-indices.ensures.read.counted }
