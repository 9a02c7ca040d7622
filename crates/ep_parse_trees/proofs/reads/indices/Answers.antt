use Rattle.std.proofs.Common.{refl}
use Rattle.std.proofs.lemmas.Result.{err_from_is_err_and}
use Rattle.ep_parse_below.proofs.ListLoops.{indices_begin, indices_end, indices_fail, indices_go, indices_smaller}
use Rattle.ep_parse_trees.proofs.reads.indices.Goals as goal

pub more-init : goal.more-init
more-init g c = indices_begin _ _ _ c.new-indices.ensures.none c.new-indices.ensures.counted

pub index-requires : goal.index-requires
index-requires g c = record { ready = c.requires.ready; counted = c.more.invariant.counted }

pub returns-in_err-index : goal.returns-in_err-index
returns-in_err-index g c =
    let p = err_from_is_err_and c.from_residual.result c.from_residual.ensures.1 in
    record { read = rw (p.1, p.2) (indices_fail _ _ _ _ _ c.in_err-index.field-0.0 c.more.invariant c.in_err-index.ensures.read) }

pub returns-then-not-passes_to_index : goal.returns-then-not-passes_to_index
returns-then-not-passes_to_index g c =
    record { read = indices_end _ _ _ _ _ _ _ c.more.invariant c.in_ok-index.ensures.read c.if-not-passes_to_index.ensures.went (c.if-not-passes_to_index.ensures.stays refl) }

pub more-preserved : goal.more-preserved
more-preserved g c = indices_go _ _ _ _ _ _ _ c.more.invariant c.in_ok-index.ensures.read c.if-not-passes_to_index.ensures.went

pub more-smaller : goal.more-smaller
more-smaller g c = indices_smaller _ _ _ _ _ _ c.in_ok-index.ensures.read c.if-not-passes_to_index.ensures.went
