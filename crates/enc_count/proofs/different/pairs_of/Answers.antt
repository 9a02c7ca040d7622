use Rattle.std.proofs.Common.{◌+◌}
use Rattle.std.proofs.lemmas.List.{take_rest}
use Rattle.enc_count.proofs.Differing.{pairs_end, pairs_step}
use Rattle.enc_count.proofs.different.pairs_of.Goals as goal

pub loop-i-preserved : goal.loop-i-preserved
loop-i-preserved c =
    pairs_step c.loop-i.pairs.items c.push_pairs.new.pairs.items _ c.args.vars.now _ c.loop-i.i c.loop-i-test.true c.loop-i.invariant (take_rest c.args.vars.now (c.loop-i.i + 1)) c.in_ok-push_pairs.ensures

pub returns : goal.returns
returns c = pairs_end c.loop-i.pairs.items _ c.args.vars.now c.loop-i.i c.loop-i-test.false c.loop-i.invariant
