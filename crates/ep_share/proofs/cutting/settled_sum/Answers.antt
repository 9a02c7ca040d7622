use Rattle.std.proofs.Common.{◌≡◌, ◌<◌, ◌≤◌, ℤ, ap, arith, length, of_z, rules, subst, sym, to_z, w64}
use Rattle.std.proofs.lemmas.Int.{to_z-of_z}
use Rattle.std.proofs.lemmas.List.{length-append}
use Rattle.ep_ground.specs.Nodes.{sum}
use Rattle.ep_share.proofs.Settled.{parts_settle, settles_more, sum_parts, taken_settles}
use Rattle.ep_share.proofs.TwoParts.{large_cut}
use Rattle.ep_share.specs.Cutting.{CanBeTaken, told_reach}
use Rattle.ep_share.specs.Standing.{IsSettled}
use Rattle.ep_share.proofs.cutting.settled_sum.Goals as goal

pub take-requires : goal.take-requires
take-requires c =
    let number : to_z w64 (of_z w64 c.args.number) ≡ c.args.number = to_z-of_z w64 c.args.number (search rules) in
    let large : 8 < length c.args.parts.items = subst (λ n. 8 < n) (ap length c.deref.ensures.value) (c.is_small.ensures.large c.if-not-is_small.true) in
    record {
      made = c.requires.made;
      room = omega (arith, c.requires.room);
      node = subst (λ (n : ℤ). CanBeTaken c.args.cells.now c.args.made.now (sum n c.args.parts.items)) (sym number) c.requires.node;
      cut = large_cut (told_reach c.args.made.now.spans.items) (to_z w64 (of_z w64 c.args.number)) c.args.parts.items large;
    }

pub returns-then-not-is_small : goal.returns-then-not-is_small
returns-then-not-is_small c =
    let number : to_z w64 (of_z w64 c.args.number) ≡ c.args.number = to_z-of_z w64 c.args.number (search rules) in
    subst (λ (n : ℤ). IsSettled c.args.cells.now 8 c.args.made.now (sum n c.args.parts.items) c.take.new.made c.in_ok-term.term) number
    (settles_more c.args.cells.now c.args.made.now c.take.new.made (sum (to_z w64 (of_z w64 c.args.number)) c.args.parts.items) c.in_ok-term.term
    (taken_settles c.args.cells.now c.args.made.now c.take.new.made (sum (to_z w64 (of_z w64 c.args.number)) c.args.parts.items) c.in_ok-term.term c.requires.made
    (subst (λ (n : ℤ). CanBeTaken c.args.cells.now c.args.made.now (sum n c.args.parts.items)) (sym number) c.requires.node).parts c.in_ok-term.ensures))

pub cut-requires : goal.cut-requires
cut-requires c = record {
  made = c.requires.made;
  room = c.requires.room;
  small = subst (λ n. n ≤ 8) (ap length c.deref.ensures.value) (c.is_small.ensures.small c.if-not-is_small.false);
  parts = sum_parts c.args.cells.now c.args.made.now c.args.number c.args.parts.items c.requires.node;
}

pub sum_of-requires : goal.sum_of-requires
sum_of-requires c =
    let small : length c.args.parts.items ≤ 8 = subst (λ n. n ≤ 8) (ap length c.deref.ensures.value) (c.is_small.ensures.small c.if-not-is_small.false) in
    let stands = c.in_ok-left.ensures.stands in
    record {
      made = c.in_ok-left.ensures.made;
      room = omega (arith, c.requires.room, small, stands.few, ap length stands.is, length-append c.args.made.now.arena stands.more);
      small = omega (arith, small, stands.few);
      parts = stands.there;
      far = c.in_ok-left.ensures.far;
    }

pub returns : goal.returns
returns c =
    let number : to_z w64 (of_z w64 c.args.number) ≡ c.args.number = to_z-of_z w64 c.args.number (search rules) in
    parts_settle c.args.cells.now c.args.made.now c.cut.new.made c.sum_of.new.made c.args.number c.args.parts.items c.in_ok-left.left.items c.in_ok-term-2.term
    (subst (λ n. n ≤ 8) (ap length c.deref.ensures.value) (c.is_small.ensures.small c.if-not-is_small.false)) c.in_ok-left.ensures.stands
    (subst (λ (n : ℤ). IsSettled c.args.cells.now 1 c.cut.new.made (sum n c.in_ok-left.left.items) c.sum_of.new.made c.in_ok-term-2.term) number c.in_ok-term-2.ensures)
