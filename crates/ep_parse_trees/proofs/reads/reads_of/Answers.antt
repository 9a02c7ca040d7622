use Rattle.std.proofs.Common.{refl}
use Rattle.std.proofs.lemmas.Result.{err_from_is_err_and}
use Rattle.ep_parse_below.proofs.ListLoops.{reads_end, reads_fail, reads_go, reads_smaller}
use Rattle.ep_parse_trees.proofs.reads.reads_of.Goals as goal

pub more-init : goal.more-init
more-init g c = (refl, c.requires.first)

pub returns-then-not-group_next : goal.returns-then-not-group_next
returns-then-not-group_next g c =
    record { read = (reads_end _ _ _ _ c.more.invariant.0 c.if-not-group_next.ensures.next, c.more.invariant.1) }

pub returns-in_err-found : goal.returns-in_err-found
returns-in_err-found g c =
    let p = err_from_is_err_and c.from_residual.result c.from_residual.ensures.1 in
    record { read = rw (p.1, p.2) (reads_fail _ _ _ _ _ c.in_err-found.field-0.0 c.more.invariant.0 c.if-not-group_next.ensures.next c.in_err-found.ensures.read) }

pub more-preserved : goal.more-preserved
more-preserved g c =
    (reads_go _ _ _ _ _ _ c.more.invariant.0 c.if-not-group_next.ensures.next c.in_ok-found.ensures.read.0, c.in_ok-found.ensures.read.1)

pub more-smaller : goal.more-smaller
more-smaller g c = reads_smaller _ _ _ _ _ c.if-not-group_next.ensures.next c.in_ok-found.ensures.read.0
