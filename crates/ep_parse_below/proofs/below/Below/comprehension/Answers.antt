use Rattle.std.proofs.lemmas.Result.{err_from_is_err_and}
use Rattle.ep_parse_below.proofs.ListLoops.{comprehension_fails, comprehension_read, conditions_fail}
use Rattle.ep_parse_below.proofs.below.Below.comprehension.Goals as goal

pub returns-in_err-generators : goal.returns-in_err-generators
returns-in_err-generators g c =
    let p = err_from_is_err_and c.from_residual.result c.from_residual.ensures.1 in
    record { read = rw (p.1, p.2) (comprehension_fails _ _ _ _ _ _ c.in_err-generators.field-0.0 c.in_err-generators.ensures.read) }

pub returns-in_err-more_parts : goal.returns-in_err-more_parts
returns-in_err-more_parts g c =
    let p = err_from_is_err_and c.from_residual-in_err-more_parts.result c.from_residual-in_err-more_parts.ensures.1 in
    record { read = rw (p.1, p.2) (conditions_fail _ _ _ _ c.in_ok-generators.generators _ _ _ c.in_err-more_parts.field-0.0 c.in_ok-generators.ensures.read c.in_err-more_parts.ensures.read) }

pub returns : goal.returns
returns g c =
    record { read = comprehension_read _ _ _ _ c.in_ok-generators.generators _ _ _ _ _ _ _ c.in_ok-generators.ensures.read c.new-conditions.ensures.none c.in_ok-more_parts.ensures.read c.comprehension_end.ensures.read }

pub comprehension_end-requires : goal.comprehension_end-requires
comprehension_end-requires g c =
    record { ready = c.requires.ready; part = c.requires.part; generators = c.in_ok-generators.ensures.read.counted; conditions = c.in_ok-more_parts.ensures.counted }
