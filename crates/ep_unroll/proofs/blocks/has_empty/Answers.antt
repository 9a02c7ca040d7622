use Rattle.ep_unroll.proofs.Words.{◌≡◌}
use Rattle.ep_unroll.proofs.TableSteps.{end_filled, one_empty, rest_empty, rest_filled}
use Rattle.ep_unroll.proofs.blocks.has_empty.Goals as goal

pub loop-domain-init : goal.loop-domain-init
loop-domain-init c = record { empty = λ h. h; filled = λ h. h }

pub loop-domain-preserved : goal.loop-domain-preserved
loop-domain-preserved c = record {
  empty = rest_empty c.args.domains.now c.loop-domain.domain-index c.domain-item.result c.loop-domain-test.true c.loop-domain.invariant.empty;
  filled = rest_filled c.args.domains.now c.loop-domain.domain-index c.domain-item.result c.domain-item.result c.set_length.result c.loop-domain-test.true c.domain-item.is c.set_length.ensures c.if-set_length-eq0.false c.loop-domain.invariant.filled;
}

pub returns-then-set_length-eq0-clause-empty : goal.returns-then-set_length-eq0-clause-empty
returns-then-set_length-eq0-clause-empty c is = one_empty c.args.domains.now c.loop-domain.domain-index c.domain-item.result c.domain-item.result c.set_length.result c.loop-domain-test.true c.domain-item.is c.set_length.ensures c.if-set_length-eq0.true c.loop-domain.invariant.empty

pub returns-clause-filled : goal.returns-clause-filled
returns-clause-filled c is = end_filled c.args.domains.now c.loop-domain.domain-index c.loop-domain-test.false c.loop-domain.invariant.filled
