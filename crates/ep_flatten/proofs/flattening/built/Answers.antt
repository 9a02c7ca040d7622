use Rattle.std.proofs.Common.{subst, ◌≡◌, ◌+◌, ℕ, arith, length}
use Rattle.ep_ground.specs.GroundViews.{plain_ground}
use Rattle.ep_flatten.specs.Building.{IsBuilt, plain_built}
use Rattle.ep_flatten.proofs.flattening.built.Goals as goal

pub loop-term-init : goal.loop-term-init
loop-term-init c = c.in_ok-made.ensures c.args.marks.now.marked.items

pub loop-term-preserved : goal.loop-term-preserved
loop-term-preserved c =
    subst (λ (k : ℕ). IsBuilt (plain_ground c.args.g.now) c.args.marks.now.marked.items (k + 1) (plain_built c.add_term.new.made)) c.new.ensures c.in_ok-add_term.ensures

pub returns : goal.returns
returns c =
    let end : c.loop-term.term ≡ length c.args.g.now.arena = omega (arith, c.loop-term-test.false, c.loop-term.auto.term-end, c.len-term-end.ensures.value) in
    subst (λ (n : ℕ). IsBuilt (plain_ground c.args.g.now) c.args.marks.now.marked.items n (plain_built c.loop-term.made)) end c.loop-term.invariant
