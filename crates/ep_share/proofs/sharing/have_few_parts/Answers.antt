use Rattle.std.proofs.Common.{◌≤◌, ap, arith, length, sym, ◌∙◌}
use Rattle.std.specs.Prelude.{slice_get}
use Rattle.std.proofs.lemmas.List.Elements.{All-nil}
use Rattle.ep_ground.specs.NodeViews.{plain_node}
use Rattle.ep_reach.proofs.Nodes.{all_got, all_whole}
use Rattle.ep_reach.specs.Reaching.{HasFewParts}
use Rattle.ep_share.proofs.sharing.have_few_parts.Goals as goal

pub loop-term-init : goal.loop-term-init
loop-term-init c = All-nil HasFewParts

pub loop-term-preserved : goal.loop-term-preserved
loop-term-preserved c =
    all_got HasFewParts c.args.arena.now c.loop-term.term (plain_node c.node.result.now)
    (ap (slice_get c.args.arena.now) (sym c.new.ensures) ∙ c.node.ensures.node) c.loop-term.invariant (c.has_few_parts.ensures.sound c.if-not-has_few_parts.false)

pub returns-clause-sound : goal.returns-clause-sound
returns-clause-sound c h =
    let end : length c.args.arena.now ≤ c.loop-term.term = omega (arith, c.loop-term-test.false, c.len-term-end.ensures.value) in
    all_whole HasFewParts c.args.arena.now c.loop-term.term end c.loop-term.invariant
