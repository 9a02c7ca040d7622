use Rattle.std.proofs.Common.{refl}
use Rattle.std.proofs.lemmas.Result.{err_from_is_err_and}
use Rattle.ep_parse_below.proofs.ListLoops.{parts_end, parts_fail, parts_go, parts_smaller, pushed_trees}
use Rattle.ep_parse_below.proofs.below.Below.more_parts.Goals as goal

pub more-init : goal.more-init
more-init g c = (refl, c.requires.counted)

pub returns-then-not-passes : goal.returns-then-not-passes
returns-then-not-passes g c =
    record { read = parts_end _ _ _ _ _ _ c.more.invariant.0 c.if-not-passes.ensures.passed; counted = c.more.invariant.1 }

pub returns-in_err-part-clause-read : goal.returns-in_err-part-clause-read
returns-in_err-part-clause-read g c =
    let p = err_from_is_err_and c.from_residual.result c.from_residual.ensures.1 in
    rw (p.1, p.2) (parts_fail _ _ _ _ _ _ _ c.in_err-part.field-0.0 c.more.invariant.0 c.if-not-passes.ensures.passed c.in_err-part.ensures.read)

pub more-preserved : goal.more-preserved
more-preserved g c =
    (parts_go _ _ _ _ _ _ _ _ _ c.more.invariant.0 c.if-not-passes.ensures.passed c.in_ok-part.ensures.read.0 (pushed_trees _ _ _ c.in_ok-push.ensures.pushed), c.in_ok-push.ensures.counted)

pub more-smaller : goal.more-smaller
more-smaller g c = parts_smaller _ _ _ _ _ c.if-not-passes.ensures.passed c.in_ok-part.ensures.read.0
