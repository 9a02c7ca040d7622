use Rattle.std.proofs.Common.{◌∙◌, ℕ, List, ap}
use Rattle.std.proofs.lemmas.List.{take_all}
use Rattle.enc_count.proofs.Counting.{parts_more}
use Rattle.enc_count.specs.Counts.{counted_parts}
use Rattle.enc_count.proofs.counts.parts_of.Goals as goal

pub loop-mark-preserved : goal.loop-mark-preserved
loop-mark-preserved c = parts_more c.args.var c.args.marks.now c.loop-mark.mark-index c.loop-mark.parts.items c.push.new.self.items c.loop-mark-test.true c.loop-mark.invariant c.in_ok-push.ensures.items

pub returns : goal.returns
returns c = c.loop-mark.invariant ∙ ap (λ (ms : List ℕ). counted_parts c.args.var ms) (take_all c.loop-mark.mark-index c.args.marks.now c.loop-mark-test.false)
