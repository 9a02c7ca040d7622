use Rattle.std.proofs.lemmas.Result.{err_from_is_err_and}
use Rattle.ep_parse_below.proofs.ListLoops.{read_fails, read_given}
use Rattle.ep_parse_trees.proofs.reads.read.Goals as goal

pub returns-in_err-indices : goal.returns-in_err-indices
returns-in_err-indices g c =
    let p = err_from_is_err_and c.from_residual.result c.from_residual.ensures.1 in
    record { read = rw (p.1, p.2) (read_fails _ _ _ _ c.in_err-indices.field-0.0 c.in_err-indices.ensures.read) }

pub returns : goal.returns
returns g c = record { read = read_given _ _ c.in_ok-indices.indices _ _ _ _ c.in_ok-indices.ensures.read c.read_end.ensures.read }

pub read_end-requires : goal.read_end-requires
read_end-requires g c = record { matrix = c.requires.matrix; indices = c.in_ok-indices.ensures.read.counted }
