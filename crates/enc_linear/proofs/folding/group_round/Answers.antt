use Rattle.std.proofs.Common.{arith}
use Rattle.std.proofs.lemmas.List.Sorted.{IsPermutation-refl, length_permutation}
use Rattle.enc_linear.proofs.Clipping.{bounds_permuted}
use Rattle.enc_linear.proofs.Folds.{gives_moved, gives_then}
use Rattle.enc_linear.proofs.folding.group_round.Goals as goal

pub loop-turn-preserved : goal.loop-turn-preserved
loop-turn-preserved c =
    let before = c.loop-turn.sum.terms.items in
    let joined = c.join_alike.new.sum.terms.items in
    let turned = c.turn.new.terms.items in
    let long = length_permutation joined turned c.turn.ensures in
    record {
      length = omega (arith, long, c.in_ok-join_alike.ensures.length, c.loop-turn.invariant.length);
      bounds = bounds_permuted c.join_alike.new.sum.bounds joined turned c.turn.ensures c.in_ok-join_alike.ensures.bounds;
      gives_way = gives_then c.args.c c.args.layout.now c.args.f.now c.args.sum.now.terms.items c.loop-turn.layout c.loop-turn.f before c.join_alike.new.layout c.join_alike.new.f turned c.loop-turn.invariant.gives_way
          (gives_moved c.args.c c.loop-turn.layout c.loop-turn.f before before c.join_alike.new.layout c.join_alike.new.f joined turned c.loop-turn.invariant.gives_way.is_layout (IsPermutation-refl before) c.turn.ensures
          c.in_ok-join_alike.ensures.gives_way);
    }
