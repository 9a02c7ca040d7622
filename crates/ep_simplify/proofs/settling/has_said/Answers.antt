use Rattle.std.proofs.Common.{ℕ}
use Rattle.ep_reach.proofs.Nodes.{all_next, all_whole}
use Rattle.ep_simplify.specs.Settling.{IsTruthNumber}
use Rattle.ep_simplify.proofs.settling.has_said.Goals as goal

pub loop-part-preserved : goal.loop-part-preserved
loop-part-preserved c =
    all_next {A = ℕ} (λ t. IsTruthNumber c.args.news.now.arena c.args.asked t → ⊥) c.args.parts.now c.loop-part.part-index c.part-item.result c.part-item.result c.loop-part-test.true c.part-item.is
    c.loop-part.invariant (c.is_said_by.ensures.unsaid c.if-is_said_by.false)

pub returns-clause-none : goal.returns-clause-none
returns-clause-none c h = all_whole {A = ℕ} (λ t. IsTruthNumber c.args.news.now.arena c.args.asked t → ⊥) c.args.parts.now c.loop-part.part-index c.loop-part-test.false c.loop-part.invariant
