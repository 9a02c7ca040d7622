use Rattle.std.proofs.Common.{false, true}
use Rattle.std.proofs.lemmas.Result.{err_from_is_err_and}
use Rattle.ep_parse_below.proofs.DomainLoops.{domains_begin, domains_fail, domains_go, domains_last, domains_smaller, passes_at, passing_fails, pushed_domains}
use Rattle.ep_parse_below.proofs.below.Below.index_domains.Goals as goal

pub more-init : goal.more-init
more-init g c = (domains_begin _ c.new-domains.result _ c.new-domains.ensures.none, c.new-domains.ensures.counted)

pub returns-in_err-domain : goal.returns-in_err-domain
returns-in_err-domain g c =
    let p = err_from_is_err_and c.from_residual.result c.from_residual.ensures.1 in
    record { read = rw (p.1, p.2) (domains_fail _ _ _ _ _ c.in_err-domain.field-0.0 c.more.invariant.0 c.in_err-domain.ensures.read) }

pub returns-in_err-goes_on : goal.returns-in_err-goes_on
returns-in_err-goes_on g c =
    let p = err_from_is_err_and c.from_residual-in_err-goes_on.result c.from_residual-in_err-goes_on.ensures.1 in
    record {
      read = rw (p.1, p.2)
          (passing_fails _ _ _ _ _ _ _ _ c.in_err-goes_on.field-0.0 c.more.invariant.0 c.in_ok-domain.ensures.read.0 (pushed_domains _ _ _ c.in_ok-push.ensures.pushed) c.in_err-goes_on.ensures.passed);
    }

pub returns-then-not-goes_on : goal.returns-then-not-goes_on
returns-then-not-goes_on g c =
    record {
      read = record {
        is = domains_last _ _ _ _ _ _ _ _ c.more.invariant.0 c.in_ok-domain.ensures.read.0 (pushed_domains _ _ _ c.in_ok-push.ensures.pushed)
            (passes_at c.in_ok-goes_on.goes_on false _ _ c.if-not-goes_on.true c.in_ok-goes_on.ensures.passed);
        counted = c.in_ok-push.ensures.counted;
      };
    }

pub more-preserved : goal.more-preserved
more-preserved g c = (
  domains_go _ _ _ _ _ _ _ _ c.more.invariant.0 c.in_ok-domain.ensures.read.0 (pushed_domains _ _ _ c.in_ok-push.ensures.pushed)
      (passes_at c.in_ok-goes_on.goes_on true _ _ c.if-not-goes_on.false c.in_ok-goes_on.ensures.passed),
  c.in_ok-push.ensures.counted,
)

pub more-smaller : goal.more-smaller
more-smaller g c =
    domains_smaller _ _ _ _ _ c.in_ok-domain.ensures.read.0 (passes_at c.in_ok-goes_on.goes_on true _ _ c.if-not-goes_on.false c.in_ok-goes_on.ensures.passed)
