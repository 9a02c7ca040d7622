use Rattle.std.proofs.lemmas.Result.{err_from_is_err_and}
use Rattle.ep_parse_parts.proofs.NameTurns.{names_end, names_fail, names_go, names_smaller}
use Rattle.ep_parse_parts.proofs.lists.names.Goals as goal

pub returns-in_err-text : goal.returns-in_err-text
returns-in_err-text c =
    let p = err_from_is_err_and c.from_residual.result c.from_residual.ensures.1 in
    record { read = rw (p.1, p.2) (names_fail _ _ _ _ c.in_err-text.field-0.0 c.loop-names.invariant c.in_err-text.ensures.read) }

pub returns-then-not-passes : goal.returns-then-not-passes
returns-then-not-passes c =
    record { read = rw c.in_ok-push.ensures.items (rw c.in_ok-new.ensures.copied (names_end _ _ _ _ _ _ c.loop-names.invariant c.in_ok-text.ensures.read c.if-not-passes.ensures.passed)) }

pub loop-names-smaller : goal.loop-names-smaller
loop-names-smaller c = names_smaller _ _ _ _ c.in_ok-text.ensures.read c.if-not-passes.ensures.passed

pub loop-names-preserved : goal.loop-names-preserved
loop-names-preserved c =
    rw c.in_ok-push.ensures.items (rw c.in_ok-new.ensures.copied (names_go _ _ _ _ _ _ c.loop-names.invariant c.in_ok-text.ensures.read c.if-not-passes.ensures.passed))
