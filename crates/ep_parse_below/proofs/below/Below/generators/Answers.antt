use Rattle.std.proofs.lemmas.Result.{err_from_is_err_and}
use Rattle.ep_parse_below.proofs.ListLoops.{generators_begin, generators_end, generators_fail, generators_go, generators_smaller}
use Rattle.ep_parse_below.proofs.below.Below.generators.Goals as goal

pub more-init : goal.more-init
more-init g c = (generators_begin _ c.new-generators.result _ c.new-generators.ensures.none, c.new-generators.ensures.counted)

pub returns-in_err-generator : goal.returns-in_err-generator
returns-in_err-generator g c =
    let p = err_from_is_err_and c.from_residual.result c.from_residual.ensures.1 in
    record { read = rw (p.1, p.2) (generators_fail _ _ _ _ _ c.in_err-generator.field-0.0 c.more.invariant.0 c.in_err-generator.ensures.read) }

pub returns-then-not-generator_behind : goal.returns-then-not-generator_behind
returns-then-not-generator_behind g c =
    record {
      read = record {
        is = generators_end _ _ _ _ _ _ c.more.invariant.0 c.in_ok-generator.ensures.read c.if-not-generator_behind.ensures.comes;
        counted = c.in_ok-generator.ensures.counted;
      };
    }

pub more-preserved : goal.more-preserved
more-preserved g c =
    (generators_go _ _ _ _ _ _ _ c.more.invariant.0 c.in_ok-generator.ensures.read c.if-not-generator_behind.ensures.comes c.pass.ensures.passed, c.in_ok-generator.ensures.counted)

pub more-smaller : goal.more-smaller
more-smaller g c = generators_smaller _ _ _ _ _ _ c.in_ok-generator.ensures.read c.pass.ensures.passed
