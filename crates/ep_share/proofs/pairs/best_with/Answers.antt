use Rattle.std.proofs.Common.{arith, ◌+◌, ◌<◌, ◌∙◌, length, subst, sym}
use Rattle.std.proofs.lemmas.Bool.{false≢true}
use Rattle.ep_share.proofs.Best.{SoFar, far_more, found_none, found_one, read_at}
use Rattle.ep_share.specs.Cutting.{IsNearPair, addend_at, told_reach}
use Rattle.ep_share.proofs.pairs.best_with.Goals.{then-is_near_pair, else-is_near_pair}
use Rattle.ep_share.proofs.pairs.best_with.Goals as goal

pub loop-first-init : goal.loop-first-init
loop-first-init c = record {
  places = c.requires.places;
  near = c.requires.near;
  far = c.requires.far;
  row = λ none i p q below at_i at_second near. absurd (omega (arith, below));
}

pub loop-first-preserved : goal.loop-first-preserved
loop-first-preserved c =
    let reach = told_reach c.args.spans.now in
    let parts = c.args.parts.now in
    let second = c.args.second in
    let first = c.loop-first.first in
    let below : first < length parts = omega (arith, c.loop-first-test.true, c.requires.second) in
    let one = read_at parts first c.index-parts-first.result below c.index-parts-first.is in
    let other = read_at parts second c.index-parts-second.result c.requires.second c.index-parts-second.is in
    elim c.if-is_near_pair.branch as (λ _. SoFar reach parts second (first + 1) c.if-is_near_pair.found) [
      | then-is_near_pair w ↦
          found_one reach parts second first c.loop-first.found c.if-is_near_pair.found (record { first = first; second = second }) w.better.result c.loop-first.invariant
          (record { ascend = c.loop-first-test.true; within = c.requires.second })
          (subst (λ p. IsNearPair reach p (addend_at parts second)) one (subst (IsNearPair reach c.index-parts-first.result) other (c.is_near_pair.ensures.sound w.if-is_near_pair.true)))
          w.better.ensures w.found-is
      | else-is_near_pair w ↦
          found_none reach parts second first c.loop-first.found c.if-is_near_pair.found c.loop-first.invariant
          (λ near. false≢true (sym w.if-is_near_pair.false ∙ c.is_near_pair.ensures.complete
          (subst (λ p. IsNearPair reach p c.index-parts-second.result) (sym one) (subst (IsNearPair reach (addend_at parts first)) (sym other) near))))
          w.found-is
    ]

pub returns-clause-places : goal.returns-clause-places
returns-clause-places c = c.loop-first.invariant.places

pub returns-clause-near : goal.returns-clause-near
returns-clause-near c = c.loop-first.invariant.near

pub returns-clause-far : goal.returns-clause-far
returns-clause-far c none =
    far_more (told_reach c.args.spans.now) c.args.parts.now c.args.second (c.loop-first.invariant.far none)
    (λ i p q below at_i at_second near. c.loop-first.invariant.row none i p q (omega (arith, below, c.loop-first-test.false)) at_i at_second near)
