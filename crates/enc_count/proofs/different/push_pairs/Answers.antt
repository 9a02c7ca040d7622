use Rattle.std.proofs.Common.{ℕ, ◌++◌, ◌∙◌, List, map, ap}
use Rattle.std.proofs.lemmas.List.{take_all}
use Rattle.enc_count.proofs.Differing.{pair_pushed}
use Rattle.enc_count.proofs.different.push_pairs.Goals as goal

pub loop-other-preserved : goal.loop-other-preserved
loop-other-preserved c =
    pair_pushed c.args.pairs.now.items c.loop-other.pairs.items c.push.new.self.items c.args.var c.args.others.now c.loop-other.other-index c.loop-other-test.true c.loop-other.invariant c.in_ok-push.ensures.items

pub returns : goal.returns
returns c = c.loop-other.invariant ∙ ap (λ (ys : List ℕ). c.args.pairs.now.items ++ map {B = ℕ × ℕ} (λ y. (c.args.var, y)) ys) (take_all c.loop-other.other-index c.args.others.now c.loop-other-test.false)
