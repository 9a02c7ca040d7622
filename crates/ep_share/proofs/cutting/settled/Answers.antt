use Rattle.std.proofs.Common.{◌≡◌, ℤ, arith, of_z, rules, subst, sym, to_z, w64}
use Rattle.std.proofs.lemmas.Int.{to_z-of_z}
use Rattle.ep_ground.specs.Nodes.{sum}
use Rattle.ep_ground.specs.NodeViews.{plain_node}
use Rattle.ep_ground.specs.declared.nodes.Node.{Node}
use Rattle.ep_share.proofs.Settled.{settles_more, taken_settles}
use Rattle.ep_share.proofs.Cuts.{other_cut}
use Rattle.ep_share.specs.Cutting.{CanBeTaken, told_reach}
use Rattle.ep_share.specs.Standing.{IsSettled}
use Rattle.ep_share.proofs.cutting.settled.Goals as goal

pub settled_sum-requires : goal.settled_sum-requires
settled_sum-requires c =
    let number : to_z w64 (of_z w64 c.in-Add.number) ≡ c.in-Add.number = to_z-of_z w64 c.in-Add.number (search rules) in
    record {
      made = c.requires.made;
      room = c.requires.room;
      node = subst (λ (n : ℤ). CanBeTaken c.args.cells.now c.args.made.now (sum n c.in-Add.parts.items)) (sym number)
          (subst (λ (n : Node). CanBeTaken c.args.cells.now c.args.made.now (plain_node n)) c.in-Add.is c.requires.node);
    }

pub take-requires : goal.take-requires
take-requires c = record {
  made = c.requires.made;
  room = omega (arith, c.requires.room);
  node = c.requires.node;
  cut = other_cut (told_reach c.args.made.now.spans.items) c.args.node c.in_default.not-Add;
}

pub returns-in_ok-term-in-Add : goal.returns-in_ok-term-in-Add
returns-in_ok-term-in-Add c =
    let number : to_z w64 (of_z w64 c.in-Add.number) ≡ c.in-Add.number = to_z-of_z w64 c.in-Add.number (search rules) in
    subst (λ (n : Node). IsSettled c.args.cells.now 8 c.args.made.now (plain_node n) c.settled_sum.new.made c.in_ok-term-in-Add.term) (sym c.in-Add.is)
    (subst (λ (n : ℤ). IsSettled c.args.cells.now 8 c.args.made.now (sum n c.in-Add.parts.items) c.settled_sum.new.made c.in_ok-term-in-Add.term) number c.in_ok-term-in-Add.ensures)

pub returns-in_ok-term-in_default : goal.returns-in_ok-term-in_default
returns-in_ok-term-in_default c =
    settles_more c.args.cells.now c.args.made.now c.take.new.made (plain_node c.args.node) c.in_ok-term-in_default.term
    (taken_settles c.args.cells.now c.args.made.now c.take.new.made (plain_node c.args.node) c.in_ok-term-in_default.term c.requires.made c.requires.node.parts c.in_ok-term-in_default.ensures)
