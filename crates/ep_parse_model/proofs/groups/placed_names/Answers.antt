use Rattle.std.proofs.lemmas.Result.{err_from_is_err_and}
use Rattle.ep_parse_model.proofs.CommaTurns.{ends, fails, goes, smaller}
use Rattle.ep_parse_model.proofs.Shrinking.{placed_shrinks}
use Rattle.ep_parse_model.proofs.groups.placed_names.Goals as goal
use Rattle.ep_parse_model.specs.TextReaders.{placed_name_from, placed_names_from}

pub returns-in_err-name : goal.returns-in_err-name
unfolding placed_names_from
returns-in_err-name c =
    let p = err_from_is_err_and c.from_residual.result c.from_residual.ensures.1 in
    record { read = rw (p.1, p.2) (fails placed_name_from placed_shrinks _ _ _ _ c.in_err-name.field-0.0 c.loop-names.invariant c.in_err-name.ensures.read) }

pub returns-then-not-passes : goal.returns-then-not-passes
unfolding placed_names_from
returns-then-not-passes c =
    record { read = rw c.in_ok-push.ensures.items (ends placed_name_from placed_shrinks _ _ _ _ _ _ c.loop-names.invariant c.in_ok-name.ensures.read c.if-not-passes.ensures.passed) }

pub loop-names-smaller : goal.loop-names-smaller
loop-names-smaller c = smaller placed_name_from placed_shrinks _ _ _ _ c.in_ok-name.ensures.read c.if-not-passes.ensures.passed

pub loop-names-preserved : goal.loop-names-preserved
unfolding placed_names_from
loop-names-preserved c =
    rw c.in_ok-push.ensures.items (goes placed_name_from placed_shrinks _ _ _ _ _ _ c.loop-names.invariant c.in_ok-name.ensures.read c.if-not-passes.ensures.passed)
