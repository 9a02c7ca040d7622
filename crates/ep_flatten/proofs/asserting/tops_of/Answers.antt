use Rattle.std.proofs.Common.{ap, arith, subst, sym, ◌≡◌, ◌+◌, ℕ, List, length}
use Rattle.std.specs.Prelude.{map}
use Rattle.ep_flat.specs.Cons.{FlatCon}
use Rattle.ep_flat.specs.FlatViews.{plain_con}
use Rattle.ep_ground.specs.GroundViews.{plain_ground}
use Rattle.ep_flatten.specs.Building.{HasTops, plain_built}
use Rattle.ep_flatten.proofs.Truths.{tops_none}
use Rattle.ep_flatten.proofs.asserting.tops_of.Goals as goal

pub loop-term-init : goal.loop-term-init
loop-term-init c =
    subst (λ (cons : List FlatCon). HasTops (plain_ground c.args.g.now) c.args.marks.now.asserted.items (plain_built c.args.made.now) 0 cons) (sym (ap (map plain_con) c.new-cons.ensures.items))
    (tops_none (plain_ground c.args.g.now) c.args.marks.now.asserted.items (plain_built c.args.made.now))

pub loop-term-preserved : goal.loop-term-preserved
loop-term-preserved c =
    subst (λ (k : ℕ). HasTops (plain_ground c.args.g.now) c.args.marks.now.asserted.items (plain_built c.args.made.now) (k + 1) (map plain_con c.add_top.new.cons.items)) c.new.ensures c.in_ok-add_top.ensures

pub returns : goal.returns
returns c =
    let end : c.loop-term.term ≡ length c.args.g.now.arena = omega (arith, c.loop-term-test.false, c.loop-term.auto.term-end, c.len-term-end.ensures.value) in
    subst (λ (n : ℕ). HasTops (plain_ground c.args.g.now) c.args.marks.now.asserted.items (plain_built c.args.made.now) n (map plain_con c.loop-term.cons.items)) end c.loop-term.invariant
