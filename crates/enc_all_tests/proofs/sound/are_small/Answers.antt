use Rattle.std.specs.List.{All}
use Rattle.ep_base.specs.Reads.{IsWithinNumbers}
use Rattle.enc_all_tests.proofs.Small.{all_next, all_whole}
use Rattle.enc_all_tests.proofs.sound.are_small.Goals as goal

pub loop-domain-preserved : goal.loop-domain-preserved
loop-domain-preserved c =
    all_next (λ d. All IsWithinNumbers d) c.args.domains.now c.loop-domain.domain-index c.domain-item.result c.domain-item.result c.loop-domain-test.true c.domain-item.is c.loop-domain.invariant (c.is_small.ensures c.if-not-is_small.false)

pub returns : goal.returns
returns c h = all_whole (λ d. All IsWithinNumbers d) c.args.domains.now c.loop-domain.domain-index c.loop-domain-test.false c.loop-domain.invariant
