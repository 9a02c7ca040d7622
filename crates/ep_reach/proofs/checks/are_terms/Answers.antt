use Rattle.std.proofs.Common.{◌<◌, arith}
use Rattle.std.proofs.lemmas.List.Elements.{All-nil}
use Rattle.ep_reach.proofs.Nodes.{all_next, all_whole}
use Rattle.ep_reach.proofs.checks.are_terms.Goals as goal

pub loop-term-init : goal.loop-term-init
loop-term-init c = All-nil (λ t. t < c.args.nodes)

pub loop-term-preserved : goal.loop-term-preserved
loop-term-preserved c =
    all_next (λ t. t < c.args.nodes) c.args.terms.now c.loop-term.term-index c.term-item.result _ c.loop-term-test.true c.term-item.is c.loop-term.invariant
    (omega (arith, c.if-from-nodes.false, c.from.ensures, c.number.ensures))

pub returns-clause-sound : goal.returns-clause-sound
returns-clause-sound c h = all_whole (λ t. t < c.args.nodes) c.args.terms.now c.loop-term.term-index c.loop-term-test.false c.loop-term.invariant
